-- Signs as numbers. Assumes nothing.
use Rattle.std.specs.Prelude.{Bool, cond, ℤ, pos, negsuc}

-- -1 for a negative number, else 1
abbrev pub sign : (negative : Bool) → ℤ
sign negative = cond negative (negsuc 0) (pos 1)
