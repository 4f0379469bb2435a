-- Request S-6: document 01's order of a CDT table's words, and the reordering by which the high words come first. Assumes nothing.
use Rattle.std.specs.Prelude.{◌≡◌, Bool, ◌&&◌, List, [], ◌∷◌, ◌++◌, ℕ, ◌+◌, ◌*◌, ◌^◌, ◌<◌, length, get_or, take, drop}
use Rattle.base_sample.specs.BaseSample.{threshold, words_small, never_falls, is_cdt, at_or_below, base_sample}

-- ** Document 01's order

-- threshold i, from 0: its high word, and then its low word
abbrev pub threshold_before : (table : List ℕ) (i : ℕ) → ℕ
threshold_before table i = get_or table (2 * i) 0 * 2 ^ 62 + get_or table (2 * i + 1) 0

-- whether 20 words were a CDT table
unfoldable pub is_cdt_before : (table : List ℕ) → Bool
is_cdt_before table = words_small table && never_falls (threshold_before table)

-- x: the number of thresholds at or below d
unfoldable pub base_sample_before : (table : List ℕ) (d : ℕ) → ℕ
base_sample_before table d = at_or_below (threshold_before table) d 10

-- ** The reordering

-- of words in twos, the first of each two; one that is left over is a first
unfoldable pub firsts : (words : List ℕ) → List ℕ
firsts [] = []
firsts (first ∷ []) = first ∷ []
firsts (first ∷ second ∷ words) = first ∷ firsts words

-- and the second
unfoldable pub seconds : (words : List ℕ) → List ℕ
seconds [] = []
seconds (first ∷ []) = []
seconds (first ∷ second ∷ words) = second ∷ seconds words

-- the high words, and then the low words
unfoldable pub reordered : (table : List ℕ) → List ℕ
reordered table = firsts table ++ seconds table

-- words in turn, one of each
unfoldable pub in_turn : (words others : List ℕ) → List ℕ
in_turn [] others = others
in_turn (word ∷ words) [] = word ∷ words
in_turn (word ∷ words) (other ∷ others) = word ∷ other ∷ in_turn words others

-- and back: the high word and the low word of each threshold
unfoldable pub restored : (cdt : List ℕ) → List ℕ
restored cdt = in_turn (take 10 cdt) (drop 10 cdt)

-- ** What follows

-- what a table in document 01's order and one in the order of now have in common
pub record SameThresholds (table cdt : List ℕ) : Type 0 where
  pub thresholds : (i : ℕ) → i < 10 → threshold cdt i ≡ threshold_before table i
  pub is_cdt_lem : is_cdt cdt ≡ is_cdt_before table
  pub base_samples : (d : ℕ) → base_sample cdt d ≡ base_sample_before table d

-- so it is of twenty words and their reordering
abbrev pub ReorderedAlike : Type 0
ReorderedAlike = (table : List ℕ) → length table ≡ 20 → SameThresholds table (reordered table)

-- a table of twenty words is had back from its reordering, and is the reordering of the table that it gives
pub record Inverse (table : List ℕ) : Type 0 where
  pub back : restored (reordered table) ≡ table
  pub forth : reordered (restored table) ≡ table

abbrev pub RestoredInverse : Type 0
RestoredInverse = (table : List ℕ) → length table ≡ 20 → Inverse table
