-- Request S-6's order of a CDT table's words, beside document 01's: tables that are told apart, and one that is not. Assumes nothing.
use Rattle.std.specs.Prelude.{◌≡◌, List, [], ◌∷◌, ℕ, zero, suc, ◌*◌, ◌^◌}
use Rattle.read_list.specs.Entries.{places_up}
use Rattle.exponential.specs.Exponential.{polynomial}
use Rattle.base_sample.specs.BaseSample.{base_sample}
use Rattle.base_sample.specs.HighWordsFirst.{base_sample_before, reordered, restored}
use Rattle.refusals.specs.Refusals.{draw_refusal, draw_refusal_before}
use Rattle.known_points.specs.EvenThresholds.{even_thresholds}
use Rattle.known_points.specs.DefaultCdt.{cdt215}

-- count thresholds of document 01's known points, from the i-th on, as it has them: high i * 2 ^ 40, low 0
unfoldable pub even_before_from : (i count : ℕ) → List ℕ
even_before_from i zero = []
even_before_from i (suc count) = i * 2 ^ 40 ∷ 0 ∷ even_before_from (suc i) count

unfoldable pub even_before : List ℕ
even_before = even_before_from 1 10

-- the words 0 to 19, which are a CDT table in both orders
abbrev pub up_to19 : List ℕ
up_to19 = places_up 0 0 20

pub record WordOrder : Type 0 where
  -- ** Document 01's order is refused
  -- the table of its known points, whose reordering is the table of ours
  pub even_reordered : reordered even_before ≡ even_thresholds
  pub even_served_before : draw_refusal_before 4 215 8 even_before polynomial 32 8 370 ≡ 0
  pub even_refused : draw_refusal 4 215 8 even_before polynomial 32 8 370 ≡ 3
  -- the table that hosts lend
  pub default_served_before : draw_refusal_before 4 215 8 (restored cdt215) polynomial 32 8 370 ≡ 0
  pub default_refused : draw_refusal 4 215 8 (restored cdt215) polynomial 32 8 370 ≡ 3
  --
  -- ** But for tables that never fall in both orders
  pub both_served_before : draw_refusal_before 4 215 8 up_to19 polynomial 32 8 370 ≡ 0
  pub both_served : draw_refusal 4 215 8 up_to19 polynomial 32 8 370 ≡ 0
  -- they have other thresholds, and other base samples
  pub base_sample_before_lem : base_sample_before up_to19 (5 * 2 ^ 62) ≡ 3
  pub base_sample_now : base_sample up_to19 (5 * 2 ^ 62) ≡ 5
