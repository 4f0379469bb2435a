-- A refusal is no call that is served. Assumes nothing.
use Prim.Native.Nat.{◌<◌}
use native.Mathlib.Omega.{arith}
use Rattle.refused.specs.declared.Refusal.{Refusal}
use Rattle.refused.specs.declared.Refusal.TheVariants.{Degree, Lengths, Cdt, Polynomial, Limit, Challenge, Words, List, NotDrawn}
use Rattle.refused.specs.declared.Refusal.TheVariants.{Key, Y, Exponent, KeySum, Output, Record, Deviation, ResponseDeviation}
use Rattle.refused.specs.Refusals.{number}

pub number_pos : (refusal : Refusal) → 0 < number refusal
number_pos Degree = omega arith
number_pos Lengths = omega arith
number_pos Cdt = omega arith
number_pos Polynomial = omega arith
number_pos Limit = omega arith
number_pos Challenge = omega arith
number_pos Words = omega arith
number_pos List = omega arith
number_pos NotDrawn = omega arith
number_pos Key = omega arith
number_pos Y = omega arith
number_pos Exponent = omega arith
number_pos KeySum = omega arith
number_pos Output = omega arith
number_pos Record = omega arith
number_pos Deviation = omega arith
number_pos ResponseDeviation = omega arith
