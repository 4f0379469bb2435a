-- The refusals of openings, 1 and 16: the example of document 01's table, every degree, every deviation of request S-8, the numbers next to
-- them, and which is the first. Assumes nothing.
use Rattle.std.specs.Prelude.{◌≡◌, List, [], ◌∷◌, ℕ, ◌+◌, ◌-◌, ◌^◌, replicate}
use Rattle.refusals.specs.Refusals.{open_refusal}
use Rattle.session.specs.Calls.{opened}

-- the refusals of openings at 215, one for each degree
unfoldable pub openings : (ns : List ℕ) → List ℕ
openings [] = []
openings (n ∷ ns) = open_refusal n 215 ∷ openings ns

-- the refusals of openings of degree 4, one for each deviation
unfoldable pub openings_at : (deviations : List ℕ) → List ℕ
openings_at [] = []
openings_at (deviation ∷ deviations) = open_refusal 4 deviation ∷ openings_at deviations

pub record OpeningRefusals : Type 0 where
  -- n = 12
  pub refusal_1 : open_refusal 12 215 ≡ 1
  -- all nine degrees; the neighbours of each, and the powers of two next to the ends
  pub degrees_served : openings (4 ∷ 8 ∷ 16 ∷ 32 ∷ 64 ∷ 128 ∷ 256 ∷ 512 ∷ 1024 ∷ []) ≡ replicate 9 0
  pub below_degrees_refused : openings (3 ∷ 7 ∷ 15 ∷ 31 ∷ 63 ∷ 127 ∷ 255 ∷ 511 ∷ 1023 ∷ []) ≡ replicate 9 1
  pub above_degrees_refused : openings (5 ∷ 9 ∷ 17 ∷ 33 ∷ 65 ∷ 129 ∷ 257 ∷ 513 ∷ 1025 ∷ []) ≡ replicate 9 1
  pub other_powers_refused : openings (0 ∷ 1 ∷ 2 ∷ 2048 ∷ []) ≡ replicate 4 1
  -- all four deviations; the neighbours of each, and numbers that agree with 215 in their low bits
  pub deviations_served : openings_at (107 ∷ 215 ∷ 250 ∷ 271 ∷ []) ≡ replicate 4 0
  pub below_deviations_refused : openings_at (0 ∷ 106 ∷ 214 ∷ 249 ∷ 270 ∷ []) ≡ replicate 5 16
  pub above_deviations_refused : openings_at (108 ∷ 216 ∷ 251 ∷ 272 ∷ (2 ^ 64 - 1) ∷ []) ≡ replicate 5 16
  pub low_bits_refused : openings_at ((2 ^ 8 + 215) ∷ (2 ^ 32 + 215) ∷ (2 ^ 63 + 215) ∷ []) ≡ replicate 3 16
  -- 1 is before 16
  pub degree_first : open_refusal 12 108 ≡ 1
  -- refused, degree and deviation are 0, and nothing is drawn
  pub opened_at_107 : opened 4 107 ≡ record { refusal = 0; session = record { degree = 4; deviation = 107; drawn = 0 } }
  pub opened_at_108 : opened 4 108 ≡ record { refusal = 16; session = record { degree = 0; deviation = 0; drawn = 0 } }
  pub opened_of_12 : opened 12 215 ≡ record { refusal = 1; session = record { degree = 0; deviation = 0; drawn = 0 } }
