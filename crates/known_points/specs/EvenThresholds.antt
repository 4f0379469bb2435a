-- The CDT table of document 01's known points, in the order of request S-6. Assumes nothing.
use Rattle.std.specs.Prelude.{List, [], ◌∷◌, ◌++◌, ℕ, zero, suc, ◌*◌, ◌^◌, replicate}

-- i * 2 ^ 40, (i + 1) * 2 ^ 40, ..: count words
unfoldable pub steps_from : (i count : ℕ) → List ℕ
steps_from i zero = []
steps_from i (suc count) = i * 2 ^ 40 ∷ steps_from (suc i) count

-- the i-th threshold, from 1, is high i * 2 ^ 40, low 0
unfoldable pub even_thresholds : List ℕ
even_thresholds = steps_from 1 10 ++ replicate 10 0
