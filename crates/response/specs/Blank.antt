-- A response to the empty challenge, by request S-5: what is left of its tests and its list where Sc is zero, so that z is y. Assumes
-- nothing.
use Rattle.std.specs.Prelude.{Bool, List, [], ◌∷◌, ◌++◌, ℕ, ◌%◌, ◌^◌, ◌≤◌, ◌<◌, ℤ}
use Rattle.arithmetic.specs.Words.{bit}
use Rattle.read_list.specs.Entries.{entry, places_down}
use Rattle.signed.specs.Vectors.{square_sum}
use Rattle.response.specs.ByRule.{CoefficientsPass}

-- A is 0, so that N1 is 46,225; I is 0, so that N2 is 0, and every third word passes
pub record BlankPasses (e : ℕ → ℕ) (n : ℕ) (y : List ℤ) (second : ℕ) : Type 0 where
  pub norm : square_sum y ≤ 165688384
  pub first_exponential : second % 2 ^ 62 < e 46225
  pub coefficients : CoefficientsPass n y

-- 47 entries, none of them of the key: the degree, three words, the polynomial table twice, the bit
unfoldable pub blank_entries : (n : ℕ) (accepted : Bool) → List ℕ
blank_entries n accepted =
    entry 7 n ∷ entry 2 0 ∷ entry 2 1 ∷ entry 2 2 ∷ (places_down 4 21 ++ (places_down 4 21 ++ (entry 9 (bit accepted) ∷ [])))
