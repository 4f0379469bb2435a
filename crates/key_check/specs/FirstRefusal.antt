-- The answer of the key check by the words of request S-1, said of what the caller sees. Assumes nothing.
use Rattle.std.specs.Prelude.{◌≡◌, List, ◌⊎◌, ◌≢◌, ℕ, ◌*◌, ◌<◌, ℤ, pos, nat_abs, length}
use Rattle.checks.specs.RefusalTable.{Refuses, Serves}
use Rattle.refusals.specs.FirstRefusal.{NoDegree, TooMany, Outside}
use Rattle.key_check.specs.KeyCheck.{final_sum, key_answer}

-- the table of its refusals, in their order; the final sum has no sign (`NeverNegative`)
abbrev pub KeyRefuses : (n : ℕ) (key : List ℤ) (count : ℕ) (refusal : ℕ) → Type 0
KeyRefuses n key count =
    Refuses 1 (NoDegree n)
    (Refuses 2 (length key ≢ 2 * n)
    (Refuses 6 ((count ≡ 0) ⊎ TooMany n count)
    (Refuses 10 (Outside 7 key)
    (Refuses 13 (46225 < nat_abs (final_sum key n count))
    Serves))))

-- the refusal of an answer is the first that applies, or 0
abbrev pub KeyRefusesFirst : Type 0
KeyRefusesFirst = (n : ℕ) (key : List ℤ) (count : ℕ) → KeyRefuses n key count (key_answer n key count).refusal

-- a key that passes is answered with its final sum, and a refused one with 0
pub record SumOfAnswer (n : ℕ) (key : List ℤ) (count : ℕ) : Type 0 where
  pub passed : (key_answer n key count).refusal ≡ 0 → pos (key_answer n key count).sum ≡ final_sum key n count
  pub refused : ((key_answer n key count).refusal ≡ 0 → ⊥) → (key_answer n key count).sum ≡ 0

abbrev pub AnswersWithTheSum : Type 0
AnswersWithTheSum = (n : ℕ) (key : List ℤ) (count : ℕ) → SumOfAnswer n key count
