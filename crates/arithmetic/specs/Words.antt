-- Numbers of two words, in base 2 ^ 64 or 2 ^ 62, and tests as numbers. Assumes nothing.
use Rattle.std.specs.Prelude.{◌≡◌, Bool, true, false, ℕ, ◌+◌, ◌*◌, ◌%◌, ◌^◌}
use Rattle.arithmetic.specs.declared.Wide.{Wide}

-- 62 of a word: its low 62 bits
abbrev pub low62_of : (word : ℕ) → ℕ
low62_of word = word % 2 ^ 62

-- the number that two words stand for, as digits
abbrev pub value : {bits : ℕ} → Wide bits → ℕ
value {bits} w = w.high * 2 ^ bits + w.low

-- a test as a number: 1 where it holds, else 0
abbrev pub bit : Bool → ℕ
bit true = 1
bit false = 0

-- ** What follows

-- the high word counts 2 ^ 64, and the low word 1
abbrev pub ValueByItsWords : Type 0
ValueByItsWords = (w : Wide 64) → value w ≡ w.high * 2 ^ 64 + w.low

-- of base 2 ^ 62, the high word counts 2 ^ 62
abbrev pub Value62ByItsWords : Type 0
Value62ByItsWords = (w : Wide 62) → value w ≡ w.high * 2 ^ 62 + w.low
