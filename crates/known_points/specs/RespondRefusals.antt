-- The refusals of responds, 1, 2, 4, 6 to 11, 16 and 17, at degree 4: the examples of document 01's table and others, which of several is
-- the first, and the lengths that are served. negsuc k is -(k + 1). Assumes nothing.
use Rattle.std.specs.Prelude.{◌≡◌, List, [], ◌∷◌, ℕ, ◌+◌, ◌-◌, ◌^◌, ℤ, pos, negsuc, take, set, replicate}
use Rattle.exponential.specs.Exponential.{polynomial}
use Rattle.refusals.specs.Refusals.{respond_refusal}

-- a key or a y
abbrev pub zeros : List ℤ
zeros = replicate 8 (pos 0)

-- a key and a y out of range
abbrev pub wrong_key : List ℤ
wrong_key = replicate 8 (pos 8)

abbrev pub wrong_y : List ℤ
wrong_y = replicate 8 (pos 2816)

-- the refusal of a respond at degree 4 and deviation 215, over a z of 8 values, with three words
abbrev pub respond_of4 : (drawn : ℕ) (challenge : List ℕ) (key y : List ℤ) (list : ℕ) → ℕ
respond_of4 drawn challenge key y list = respond_refusal 4 215 drawn challenge polynomial 3 key y 8 list

-- the refusal of a respond with two words, no list, nothing drawn, and a key and a y out of range
abbrev pub respond_wrong : (n deviation : ℕ) (challenge table : List ℕ) → ℕ
respond_wrong n deviation challenge table = respond_refusal n deviation 0 challenge table 2 wrong_key wrong_y 8 0

pub record RespondRefusals : Type 0 where
  -- ** The examples of the table
  -- positions 2, 2
  pub refusal_6 : respond_of4 1 (2 ∷ 2 ∷ []) zeros zeros 63 ≡ 6
  -- nothing drawn
  pub refusal_9 : respond_of4 0 (0 ∷ []) zeros zeros 55 ≡ 9
  -- a key value of 8
  pub refusal_10 : respond_of4 1 (0 ∷ []) (pos 8 ∷ replicate 7 (pos 0)) zeros 55 ≡ 10
  -- a y value of 2,816
  pub refusal_11 : respond_of4 1 (0 ∷ []) zeros (pos 2816 ∷ replicate 7 (pos 0)) 55 ≡ 11
  --
  -- ** Others
  -- a y, a z and a key of 7 values
  pub respond_2_y : respond_refusal 4 215 1 (0 ∷ []) polynomial 3 zeros (replicate 7 (pos 0)) 8 55 ≡ 2
  pub respond_2_z : respond_refusal 4 215 1 (0 ∷ []) polynomial 3 zeros zeros 7 55 ≡ 2
  pub respond_2_key : respond_refusal 4 215 1 (0 ∷ []) polynomial 3 (replicate 7 (pos 0)) zeros 8 55 ≡ 2
  -- a challenge with a position n
  pub refusal_6_position : respond_of4 1 (4 ∷ []) zeros zeros 55 ≡ 6
  -- drawn is another number than 1
  pub refusal_9_by_2 : respond_of4 2 (0 ∷ []) zeros zeros 55 ≡ 9
  pub refusal_9_by_257 : respond_of4 257 (0 ∷ []) zeros zeros 55 ≡ 9
  pub refusal_9_by_the_largest : respond_of4 (2 ^ 64 - 1) (0 ∷ []) zeros zeros 55 ≡ 9
  -- a session that holds another deviation, and the deviations that no response is made at
  pub refusal_16 : respond_refusal 4 (2 ^ 32 + 215) 1 (0 ∷ []) polynomial 3 zeros zeros 8 55 ≡ 16
  pub refusal_17_107 : respond_refusal 4 107 1 (0 ∷ []) polynomial 3 zeros zeros 8 55 ≡ 17
  pub refusal_17_250 : respond_refusal 4 250 1 (0 ∷ []) polynomial 3 zeros zeros 8 55 ≡ 17
  pub refusal_17_271 : respond_refusal 4 271 1 (0 ∷ []) polynomial 3 zeros zeros 8 55 ≡ 17
  --
  -- ** Of several that apply, the first
  -- each respond with what the later ones are refused for, and the last with nothing of it
  pub responds_in_order :
      respond_wrong 12 108 (2 ∷ 2 ∷ []) (take 20 polynomial)
      ∷ respond_wrong 4 108 (2 ∷ 2 ∷ []) (take 20 polynomial)
      ∷ respond_wrong 4 107 (2 ∷ 2 ∷ []) (take 20 polynomial)
      ∷ respond_wrong 4 215 (2 ∷ 2 ∷ []) (take 20 polynomial)
      ∷ respond_wrong 4 215 (2 ∷ 2 ∷ []) (set polynomial 19 38)
      ∷ respond_wrong 4 215 (2 ∷ 2 ∷ []) polynomial
      ∷ respond_wrong 4 215 (0 ∷ []) polynomial
      ∷ respond_of4 0 (0 ∷ []) wrong_key wrong_y 54
      ∷ respond_of4 0 (0 ∷ []) wrong_key wrong_y 55
      ∷ respond_of4 1 (0 ∷ []) wrong_key wrong_y 55
      ∷ respond_of4 1 (0 ∷ []) zeros wrong_y 55
      ∷ respond_of4 1 (0 ∷ []) zeros zeros 55
      ∷ []
      ≡ 1 ∷ 16 ∷ 17 ∷ 2 ∷ 4 ∷ 6 ∷ 7 ∷ 8 ∷ 9 ∷ 10 ∷ 11 ∷ 0 ∷ []
  --
  -- ** Lengths
  -- one position: 55 entries are served, 54 are refusal 8; the largest values of key and y, of both signs, are served
  pub served_55 :
      respond_of4 1 (0 ∷ []) (pos 7 ∷ negsuc 6 ∷ replicate 6 (pos 0)) (pos 2815 ∷ negsuc 2814 ∷ replicate 6 (pos 0)) 55 ≡ 0
  pub refused_54 : respond_of4 1 (0 ∷ []) zeros zeros 54 ≡ 8
