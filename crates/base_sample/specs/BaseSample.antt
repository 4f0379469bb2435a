-- The CDT table and the base sample of document 01, with the table's words in the order of request S-6. Assumes nothing.
use Rattle.std.specs.Prelude.{◌≡◌, Bool, ◌&&◌, List, ◌++◌, ◌↔◌, ℕ, zero, suc, ◌+◌, ◌*◌, ◌^◌, ◌≤◌, ◌<◌, leb, ltb, length, get_or}
use Rattle.arithmetic.specs.Words.{bit}
use Rattle.checks.specs.Checks.{all_below}

-- ** The CDT table

-- threshold i, from 0: the ten high words come first, and then the ten low words
abbrev pub threshold : (cdt : List ℕ) (i : ℕ) → ℕ
threshold cdt i = get_or cdt i 0 * 2 ^ 62 + get_or cdt (10 + i) 0

-- whether every word is below 2 ^ 62
unfoldable pub words_small : (cdt : List ℕ) → Bool
words_small cdt = all_below (λ (i : ℕ). ltb (get_or cdt i 0) (2 ^ 62)) 20

-- whether ten thresholds never fall
unfoldable pub never_falls : (thresholds : ℕ → ℕ) → Bool
never_falls thresholds = all_below (λ (i : ℕ). leb (thresholds i) (thresholds (suc i))) 9

-- whether 20 words are a CDT table
unfoldable pub is_cdt : (table : List ℕ) → Bool
is_cdt table = words_small table && never_falls (threshold table)

-- ** Base sample

-- of the first count thresholds, the number at or below d
unfoldable pub at_or_below : (thresholds : ℕ → ℕ) (d count : ℕ) → ℕ
at_or_below thresholds d zero = 0
at_or_below thresholds d (suc count) = at_or_below thresholds d count + bit (leb (thresholds count) d)

-- x: the number of thresholds at or below d
unfoldable pub base_sample : (cdt : List ℕ) (d : ℕ) → ℕ
base_sample cdt d = at_or_below (threshold cdt) d 10

-- ** What follows

-- of the first count thresholds, d is at or above just x: the first x
pub record AtJust (cdt : List ℕ) (d count x : ℕ) : Type 0 where
  pub at_most : x ≤ count
  pub at_or_above : (i : ℕ) → i < x → threshold cdt i ≤ d
  pub below : (i : ℕ) → x ≤ i → i < count → d < threshold cdt i

-- threshold i of ten high words and then ten low words has the high and the low word i
abbrev pub ThresholdByItsWords : Type 0
ThresholdByItsWords =
    (high low : List ℕ) (i : ℕ) → length high ≡ 10 → i < 10
    → threshold (high ++ low) i ≡ get_or high i 0 * 2 ^ 62 + get_or low i 0

-- the thresholds never fall, as a statement
abbrev pub Rising : (cdt : List ℕ) → Type 0
Rising cdt = (i : ℕ) → i < 9 → threshold cdt i ≤ threshold cdt (suc i)

-- then the base sample is x exactly when d is at or above just x thresholds
abbrev pub BaseSampleExactly : Type 0
BaseSampleExactly = (cdt : List ℕ) (d x : ℕ) → Rising cdt → (base_sample cdt d ≡ x) ↔ AtJust cdt d 10 x

-- the base sample never falls as d rises
abbrev pub BaseSampleRises : Type 0
BaseSampleRises = (cdt : List ℕ) (d d' : ℕ) → d ≤ d' → base_sample cdt d ≤ base_sample cdt d'
