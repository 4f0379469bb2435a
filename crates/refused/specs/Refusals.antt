-- The numbers of refusals, by documents 01 and 02. Assumes nothing.
use Rattle.std.specs.Prelude.{ℕ, Result, Ok, Err}
use Rattle.refused.specs.declared.Refusal.{Refusal}
use Rattle.refused.specs.declared.Refusal.TheVariants.{Degree, Lengths, Cdt, Polynomial, Limit, Challenge, Words, List, NotDrawn}
use Rattle.refused.specs.declared.Refusal.TheVariants.{Key, Y, Exponent, KeySum, Output, Record, Deviation, ResponseDeviation}

abbrev pub number : Refusal → ℕ
number Degree = 1
number Lengths = 2
number Cdt = 3
number Polynomial = 4
number Limit = 5
number Challenge = 6
number Words = 7
number List = 8
number NotDrawn = 9
number Key = 10
number Y = 11
number Exponent = 12
number KeySum = 13
number Output = 14
number Record = 15
number Deviation = 16
number ResponseDeviation = 17

-- the number that a call answers: 0 where it is served
abbrev pub refusal_of : {A : Type 0} → Result A Refusal → ℕ
refusal_of (Ok _) = 0
refusal_of (Err refusal) = number refusal
