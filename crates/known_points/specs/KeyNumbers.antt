-- Request S-1, the key check, in numbers: sums of the largest, a key worked out by hand, the limit, and the order of its refusals.
-- negsuc k is -(k + 1). Assumes nothing.
use Rattle.std.specs.Prelude.{◌≡◌, true, false, List, [], ◌∷◌, ℕ, ◌+◌, ℤ, pos, negsuc, get_or, replicate}
use Rattle.largest.specs.Largest.{largest_sum}
use Rattle.key_check.specs.KeyCheck.{rotation, table, row_sum, final_sum, is_length, answer, key_answer}

-- 5, -9, 7, 7, -1
abbrev pub five : ℕ → ℤ
five j = get_or (pos 5 ∷ negsuc 8 ∷ pos 7 ∷ pos 7 ∷ negsuc 0 ∷ []) j (pos 0)

-- s1 = 1, 2, 3, 4 and s2 = 0, -1, 2, -3
abbrev pub worked : List ℤ
worked = pos 1 ∷ pos 2 ∷ pos 3 ∷ pos 4 ∷ pos 0 ∷ negsuc 0 ∷ pos 2 ∷ negsuc 2 ∷ []

-- a row of its table
abbrev pub row_of : (i : ℕ) → List ℤ
row_of i = table worked 4 i 0 ∷ table worked 4 i 1 ∷ table worked 4 i 2 ∷ table worked 4 i 3 ∷ []

-- its row sums at a length
abbrev pub row_sums : (count : ℕ) → List ℤ
row_sums count = row_sum worked 4 count 0 ∷ row_sum worked 4 count 1 ∷ row_sum worked 4 count 2 ∷ row_sum worked 4 count 3 ∷ []

-- keys of degree 16 at the limit and over it
abbrev pub at_limit : List ℤ
at_limit =
    negsuc 2 ∷ pos 5 ∷ pos 4 ∷ pos 5 ∷ pos 5 ∷ negsuc 1 ∷ pos 3 ∷ pos 5 ∷ pos 6 ∷ pos 3 ∷ negsuc 6 ∷ pos 4
    ∷ pos 3 ∷ pos 6 ∷ pos 5 ∷ pos 4 ∷ pos 7 ∷ pos 6 ∷ pos 5 ∷ pos 7 ∷ negsuc 3 ∷ pos 5 ∷ pos 7 ∷ pos 5
    ∷ pos 5 ∷ pos 6 ∷ pos 6 ∷ pos 6 ∷ pos 6 ∷ pos 4 ∷ pos 0 ∷ pos 4 ∷ []

abbrev pub over_limit : List ℤ
over_limit =
    pos 4 ∷ pos 5 ∷ pos 3 ∷ pos 5 ∷ pos 7 ∷ negsuc 1 ∷ pos 7 ∷ pos 4 ∷ pos 6 ∷ pos 7 ∷ negsuc 3 ∷ pos 3
    ∷ pos 3 ∷ pos 4 ∷ pos 7 ∷ pos 5 ∷ pos 5 ∷ pos 6 ∷ pos 7 ∷ pos 6 ∷ negsuc 1 ∷ pos 6 ∷ pos 6 ∷ pos 7
    ∷ pos 3 ∷ negsuc 2 ∷ pos 5 ∷ pos 7 ∷ pos 3 ∷ pos 6 ∷ pos 1 ∷ pos 6 ∷ []

pub record KeyNumbers : Type 0 where
  -- ** The largest
  -- equal ones count each, and where there are few others, negative ones do
  pub largest_2 : largest_sum five 5 2 ≡ pos 14
  pub largest_3 : largest_sum five 5 3 ≡ pos 19
  pub largest_5 : largest_sum five 5 5 ≡ pos 9
  pub largest_negative : largest_sum (λ (j : ℕ). five (j + 3)) 2 2 ≡ pos 6
  --
  -- ** A key worked out by hand
  -- X times either half: the last value comes to the front with a minus sign
  pub rotation_1 : rotation worked 4 1 ≡ negsuc 3 ∷ pos 1 ∷ pos 2 ∷ pos 3 ∷ pos 3 ∷ pos 0 ∷ negsuc 0 ∷ pos 2 ∷ []
  pub row_0 : row_of 0 ≡ pos 44 ∷ pos 8 ∷ pos 0 ∷ negsuc 7 ∷ []
  pub row_1 : row_of 1 ≡ pos 8 ∷ pos 44 ∷ pos 8 ∷ pos 0 ∷ []
  pub row_2 : row_of 2 ≡ pos 0 ∷ pos 8 ∷ pos 44 ∷ pos 8 ∷ []
  pub row_3 : row_of 3 ≡ negsuc 7 ∷ pos 0 ∷ pos 8 ∷ pos 44 ∷ []
  -- with their signs: of four entries -8 is one
  pub row_sums_3 : row_sums 3 ≡ pos 52 ∷ pos 60 ∷ pos 60 ∷ pos 52 ∷ []
  pub row_sums_4 : row_sums 4 ≡ pos 44 ∷ pos 60 ∷ pos 60 ∷ pos 44 ∷ []
  -- at length 1 the sum of squares of the key
  pub sum_1 : key_answer 4 worked 1 ≡ answer 0 44
  pub sum_2 : key_answer 4 worked 2 ≡ answer 0 104
  pub sum_3 : key_answer 4 worked 3 ≡ answer 0 172
  pub sum_4 : key_answer 4 worked 4 ≡ answer 0 208
  -- a row sum may be negative: for s1 = 5, -7, 5, 0 and s2 = 0 row 1 is -70, 99, -70, 0
  pub row_sum_negative : row_sum (pos 5 ∷ negsuc 6 ∷ pos 5 ∷ replicate 5 (pos 0)) 4 4 1 ≡ negsuc 40
  --
  -- ** The limit
  -- the zero key passes with 0
  pub zero_key : key_answer 4 (replicate 8 (pos 0)) 1 ≡ answer 0 0
  pub at_limit_lem : key_answer 16 at_limit 15 ≡ answer 0 46225
  pub over_limit_lem : final_sum over_limit 16 14 ≡ pos 46226
  pub over_refused : key_answer 16 over_limit 14 ≡ answer 13 0
  --
  -- ** Refusals
  -- lengths: at least 1, at most 64, at most n
  pub lengths : is_length 4 0 ∷ is_length 4 1 ∷ is_length 4 4 ∷ is_length 4 5 ∷ is_length 1024 64 ∷ is_length 1024 65 ∷ []
      ≡ false ∷ true ∷ true ∷ false ∷ true ∷ false ∷ []
  -- of several that apply, the first: each key with what the later ones are refused for, and the last with nothing of it
  pub keys_in_order :
      key_answer 12 (replicate 31 (pos 8)) 17
      ∷ key_answer 16 (replicate 31 (pos 8)) 17
      ∷ key_answer 16 (replicate 32 (pos 8)) 17
      ∷ key_answer 16 (replicate 32 (pos 8)) 16
      ∷ key_answer 16 (replicate 32 (pos 7)) 16
      ∷ key_answer 16 (replicate 32 (negsuc 3)) 8
      ∷ []
      ≡ answer 1 0 ∷ answer 2 0 ∷ answer 6 0 ∷ answer 10 0 ∷ answer 13 0 ∷ answer 0 24576 ∷ []
