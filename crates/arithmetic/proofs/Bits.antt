-- Tests as numbers, and the number that two words are. Assumes nothing.
use mathlib.Core.Path.{◌≡◌, refl}
use mathlib.Core.Bool.{Bool, true, false}
use Prim.Native.Nat.{◌≤◌}
use native.Mathlib.Omega.{arith}
use lib.Dec.{eqb}
use Rattle.arithmetic.specs.Words.{ValueByItsWords, Value62ByItsWords, bit}

pub bit_le : (t : Bool) → bit t ≤ 1
bit_le true = omega arith
bit_le false = omega arith

pub bit_is_1 : (t : Bool) → eqb (bit t) 1 ≡ t
bit_is_1 true = refl
bit_is_1 false = refl

pub bit_injective : (t u : Bool) → bit t ≡ bit u → t ≡ u
bit_injective true true e = refl
bit_injective true false e = absurd (omega arith)
bit_injective false true e = absurd (omega arith)
bit_injective false false e = refl

pub value_by_its_words : ValueByItsWords
value_by_its_words w = refl

pub value62_by_its_words : Value62ByItsWords
value62_by_its_words w = refl
