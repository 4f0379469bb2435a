-- The refusals of draws, 1 to 5, 7, 8 and 16, at degree 4: the examples of document 01's table and others, which of several is the first,
-- and the lengths that are served. Assumes nothing.
use Rattle.std.specs.Prelude.{◌≡◌, List, [], ◌∷◌, ℕ, ◌-◌, ◌*◌, ◌^◌, take, set, replicate}
use Rattle.exponential.specs.Exponential.{polynomial}
use Rattle.known_points.specs.EvenThresholds.{even_thresholds}
use Rattle.refusals.specs.Refusals.{draw_refusal}

-- the refusal of a draw at degree 4 and deviation 215, over a y of 8 values
abbrev pub draw_of4 : (limit : ℕ) (cdt table : List ℕ) (words list : ℕ) → ℕ
draw_of4 limit cdt table words list = draw_refusal 4 215 limit cdt table words 8 list

pub record DrawRefusals : Type 0 where
  -- ** The examples of the table
  -- a CDT of 19 words
  pub refusal_2 : draw_of4 8 (take 19 even_thresholds) polynomial 32 370 ≡ 2
  -- a low word of 2 ^ 62
  pub refusal_3 : draw_of4 8 (set even_thresholds 19 (2 ^ 62)) polynomial 32 370 ≡ 3
  -- entry 19 = 38
  pub refusal_4 : draw_of4 8 even_thresholds (set polynomial 19 38) 32 370 ≡ 4
  -- L = 7
  pub refusal_5 : draw_of4 7 even_thresholds polynomial 28 370 ≡ 5
  -- L = 8, 31 words
  pub refusal_7 : draw_of4 8 even_thresholds polynomial 31 370 ≡ 7
  -- L = 8, 369 entries
  pub refusal_8 : draw_of4 8 even_thresholds polynomial 32 369 ≡ 8
  --
  -- ** Others
  -- a y of 7 values
  pub refusal_2_y : draw_refusal 4 215 8 even_thresholds polynomial 32 7 370 ≡ 2
  -- a high word of 2 ^ 62
  pub refusal_3_high : draw_of4 8 (set even_thresholds 9 (2 ^ 62)) polynomial 32 370 ≡ 3
  -- a last threshold that falls; equal ones are served
  pub refusal_3_falls : draw_of4 8 (set even_thresholds 9 (9 * 2 ^ 40 - 1)) polynomial 32 370 ≡ 3
  pub equal_thresholds : draw_of4 8 (replicate 20 0) polynomial 32 370 ≡ 0
  -- a session that holds another deviation
  pub refusal_16 : draw_refusal 4 108 8 even_thresholds polynomial 32 8 370 ≡ 16
  --
  -- ** Of several that apply, the first
  -- each draw with what the later ones are refused for, and the last with nothing of it
  pub draws_in_order :
      draw_refusal 12 108 7 (take 19 (set even_thresholds 18 (2 ^ 62))) (set polynomial 19 38) 0 8 0
      ∷ draw_refusal 4 108 7 (take 19 (set even_thresholds 18 (2 ^ 62))) (set polynomial 19 38) 0 8 0
      ∷ draw_of4 7 (take 19 (set even_thresholds 18 (2 ^ 62))) (set polynomial 19 38) 0 0
      ∷ draw_of4 7 (set even_thresholds 19 (2 ^ 62)) (set polynomial 19 38) 0 0
      ∷ draw_of4 7 even_thresholds (set polynomial 19 38) 0 0
      ∷ draw_of4 7 even_thresholds polynomial 0 0
      ∷ draw_of4 8 even_thresholds polynomial 31 369
      ∷ draw_of4 8 even_thresholds polynomial 32 369
      ∷ draw_of4 8 even_thresholds polynomial 32 370
      ∷ []
      ≡ 1 ∷ 16 ∷ 2 ∷ 3 ∷ 4 ∷ 5 ∷ 7 ∷ 8 ∷ 0 ∷ []
  --
  -- ** Lengths
  -- n = 4: L = 8 and 370 list entries are served, L = 128 with 5,890 too; L = 129 is refusal 5
  pub served_8 : draw_of4 8 even_thresholds polynomial 32 370 ≡ 0
  pub served_128 : draw_of4 128 even_thresholds polynomial 512 5890 ≡ 0
  pub refused_129 : draw_of4 129 even_thresholds polynomial 516 5936 ≡ 5
  -- the other deviations
  pub served_107 : draw_refusal 4 107 8 even_thresholds polynomial 32 8 370 ≡ 0
  pub served_250 : draw_refusal 4 250 8 even_thresholds polynomial 32 8 370 ≡ 0
  pub served_271 : draw_refusal 4 271 8 even_thresholds polynomial 32 8 370 ≡ 0
