-- The last test of the key check. Assumes nothing.
use mathlib.Core.Path.{◌≡◌, sym, ap}
use mathlib.Core.List.{List}
use Prim.Native.Nat.{ℕ}
use lib.Dec.{leb}
use lib.IntN.{ℤ, pos}
use lib.Signed.{le_z}
use Rattle.checks.proofs.Degrees.{degree_range}
use Rattle.key_check.specs.KeyCheck.{final_sum}

-- the test of the sum, as the code makes it
pub sum_tested : (n : ℕ) (key : List ℤ) (count sum : ℕ) → pos sum ≡ final_sum key n count
    → le_z (final_sum key n count) (pos 46225) ≡ leb sum 46225
sum_tested n key count sum s = ap (λ (z : ℤ). le_z z (pos 46225)) (sym s)

-- what the tests before the sum say, and the one of the sum
pub ruleset tested = (degree_range, sum_tested)
