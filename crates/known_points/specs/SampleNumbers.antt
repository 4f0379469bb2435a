-- Document 01 on the base sample and on an attempt, in numbers: the words of thresholds, and the largest size of a sample. Assumes nothing.
use Rattle.std.specs.Prelude.{◌≡◌, List, [], ◌∷◌, ℕ, zero, suc, ◌+◌, ◌*◌, ◌^◌}
use Rattle.read_list.specs.Entries.{places_up}
use Rattle.base_sample.specs.BaseSample.{threshold}
use Rattle.attempt.specs.Attempt.{size}
use Rattle.response.specs.Response.{noise_bound}

-- count thresholds of a table, from threshold i on
unfoldable pub thresholds_of : (cdt : List ℕ) (i count : ℕ) → List ℕ
thresholds_of cdt i zero = []
thresholds_of cdt i (suc count) = threshold cdt i ∷ thresholds_of cdt (suc i) count

pub record SampleNumbers : Type 0 where
  -- ten thresholds, each by its own two words: the words are 0 to 19
  pub ten_thresholds : thresholds_of (places_up 0 0 20) 0 10
      ≡ 10 ∷ (1 * 2 ^ 62 + 11) ∷ (2 * 2 ^ 62 + 12) ∷ (3 * 2 ^ 62 + 13) ∷ (4 * 2 ^ 62 + 14)
      ∷ (5 * 2 ^ 62 + 15) ∷ (6 * 2 ^ 62 + 16) ∷ (7 * 2 ^ 62 + 17) ∷ (8 * 2 ^ 62 + 18) ∷ (9 * 2 ^ 62 + 19) ∷ []
  -- x goes to 10 and b to 255: the largest size of a sample is that of a value of y
  pub noise_bound_lem : noise_bound ≡ size 10 255
