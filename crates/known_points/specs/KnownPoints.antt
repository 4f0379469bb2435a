-- The known points of document 01 that form its table, those marked with a star there, and points of our own: what the definitions that
-- the contracts cite give. A word that a point leaves open is any word; negsuc k is -(k + 1). proofs/KnownPoints.antt has the one proof of
-- all. Assumes nothing.
use Rattle.std.specs.Prelude.{◌≡◌, Bool, true, false, List, [], ◌∷◌, ◌++◌, ℕ, ◌+◌, ◌-◌}
use Rattle.std.specs.Prelude.{◌*◌, ◌^◌, ◌<◌, ℤ, pos, negsuc, take, drop, replicate}
use Rattle.signed.specs.Vectors.{square_sum}
use Rattle.exponential.specs.Exponential.{polynomial, reciprocal, divisor, limit, attempt_limit, exp, exp_with, exp_or_refusal}
use Rattle.base_sample.specs.BaseSample.{is_cdt, base_sample}
use Rattle.known_points.specs.EvenThresholds.{steps_from, even_thresholds}
use Rattle.attempt.specs.Attempt.{size, exponent, draw_at, low_bits_at, negative_at, bit_at, sample_at}
use Rattle.challenge_product.specs.Product.{product}
use Rattle.acceptance.specs.Acceptance.{squares_limit, cosh_passes}
use Rattle.response.specs.Response.{response_bound, subtracts, response_z, response_bit}

-- ** What the points are about

-- e(N) as a draw and a respond use it: over the polynomial table, at deviation 215
abbrev pub e : ℕ → ℕ
e = exp_with polynomial divisor

-- the four words of attempt 0
abbrev pub four : (word₀ word₁ word₂ word₃ : ℕ) → List ℕ
four word₀ word₁ word₂ word₃ = word₀ ∷ word₁ ∷ word₂ ∷ word₃ ∷ []

-- x, by the words 0 and 1 of attempt 0
abbrev pub base_sample_by : (cdt : List ℕ) (word₀ word₁ : ℕ) → ℕ
base_sample_by cdt word₀ word₁ = base_sample cdt (draw_at (word₀ ∷ word₁ ∷ []) 0)

-- ten thresholds that the low words alone tell apart: the i-th, from 1, is high 7, low i * 2 ^ 40
unfoldable pub one_high : List ℕ
one_high = replicate 10 7 ++ steps_from 1 10

-- the three words of a response
abbrev pub three : (word₀ word₁ word₂ : ℕ) → List ℕ
three word₀ word₁ word₂ = word₀ ∷ word₁ ∷ word₂ ∷ []

-- a half of the key at degree 4
abbrev pub one_to_four : List ℤ
one_to_four = pos 1 ∷ pos 2 ∷ pos 3 ∷ pos 4 ∷ []

-- y or Sc at degree 4: this value, then zeros
abbrev pub with_zeros : (value : ℤ) → List ℤ
with_zeros value = value ∷ replicate 7 (pos 0)

-- the bit of a response over such a y and Sc
abbrev pub bit_over : (y sc : ℤ) (words : List ℕ) → Bool
bit_over y sc words = response_bit e 4 (with_zeros y) (with_zeros sc) words

-- ** The points

pub record KnownPoints : Type 0 where
  -- ** Document 01; thresholds: the i-th (from 1) is high i * 2 ^ 40, low 0
  -- d = 0 gives x = 0
  pub lowest_d : base_sample_by even_thresholds 0 0 ≡ 0
  -- d high 2 ^ 40 - 1, low 2 ^ 62 - 1 gives 0; high 2 ^ 40, low 0 gives 1
  pub d_below_first : base_sample_by even_thresholds (2 ^ 40 - 1) (2 ^ 62 - 1) ≡ 0
  pub d_at_first : base_sample_by even_thresholds (2 ^ 40) 0 ≡ 1
  -- d high 2 ^ 62 - 1 gives 10, for every low part
  pub highest_d : (word₁ : ℕ) → base_sample_by even_thresholds (2 ^ 62 - 1) word₁ ≡ 10
  -- x = 1, b = 1: N = 513. x = 10, b = 255: N = 1,370,625
  pub exponent_513 : exponent 1 1 ≡ 513
  pub largest_exponent : exponent 10 255 ≡ 1370625
  -- e(0) = 2 ^ 62
  pub exp_0 : exp 0 ≡ 2 ^ 62
  -- x = 0, word 2 = 257: sample -1
  pub minus_one : (cdt : List ℕ) (word₀ word₁ word₃ : ℕ) → base_sample_by cdt word₀ word₁ ≡ 0
      → sample_at cdt (four word₀ word₁ 257 word₃) 0 ≡ negsuc 0
  -- x = 0, word 2 = 256: size 0, sign 1, bit 0
  pub minus_zero_size : (word₀ word₁ word₃ : ℕ) → size 0 (low_bits_at (four word₀ word₁ 256 word₃) 0) ≡ 0
  pub minus_zero_sign : (word₀ word₁ word₃ : ℕ) → negative_at (four word₀ word₁ 256 word₃) 0 ≡ true
  pub minus_zero_bit : (cdt : List ℕ) (word₀ word₁ word₃ : ℕ) → base_sample_by cdt word₀ word₁ ≡ 0
      → bit_at e cdt (four word₀ word₁ 256 word₃) 0 ≡ false
  -- word 2 = 0, x = 0: sample 0, bit 1 for every word 3
  pub zero_sample : (cdt : List ℕ) (word₀ word₁ word₃ : ℕ) → base_sample_by cdt word₀ word₁ ≡ 0
      → sample_at cdt (four word₀ word₁ 0 word₃) 0 ≡ pos 0
  pub zero_bit : (cdt : List ℕ) (word₀ word₁ word₃ : ℕ) → base_sample_by cdt word₀ word₁ ≡ 0
      → bit_at e cdt (four word₀ word₁ 0 word₃) 0 ≡ true
  -- n = 4, s1 = 1, 2, 3, 4: challenge 1 gives -4, 1, 2, 3; challenge 0, 3 gives -1, -1, -1, 5; whatever s2 is
  pub challenge_1 : (s2 : List ℤ) → take 4 (product (one_to_four ++ s2) 4 (1 ∷ [])) ≡ negsuc 3 ∷ pos 1 ∷ pos 2 ∷ pos 3 ∷ []
  pub challenge_0_3 : (s2 : List ℤ) → take 4 (product (one_to_four ++ s2) 4 (0 ∷ 3 ∷ []))
      ≡ negsuc 0 ∷ negsuc 0 ∷ negsuc 0 ∷ pos 5 ∷ []
  -- e = 2 ^ 62 in the cosh test passes every word 2; e = 0 passes none
  pub cosh_at_one : (word₂ : ℕ) → cosh_passes (2 ^ 62) word₂ ≡ true
  pub cosh_at_zero : (word₂ : ℕ) → cosh_passes 0 word₂ ≡ false
  --
  -- ** Our own: base sample
  -- the tables of these points are CDT tables
  pub even_is_cdt : is_cdt even_thresholds ≡ true
  pub one_high_is_cdt : is_cdt one_high ≡ true
  -- the top two bits of the words 0 and 1 do not count
  pub d_below_by_62_bits : (top₀ top₁ : ℕ)
      → base_sample_by even_thresholds (top₀ * 2 ^ 62 + (2 ^ 40 - 1)) (top₁ * 2 ^ 62 + (2 ^ 62 - 1)) ≡ 0
  pub d_at_by_62_bits : (top₀ top₁ : ℕ) → base_sample_by even_thresholds (top₀ * 2 ^ 62 + 2 ^ 40) (top₁ * 2 ^ 62) ≡ 1
  -- where high words are equal the low words decide: just below, at and just above threshold 3
  pub low_below : base_sample_by one_high 7 (3 * 2 ^ 40 - 1) ≡ 2
  pub low_at : base_sample_by one_high 7 (3 * 2 ^ 40) ≡ 3
  pub low_above : base_sample_by one_high 7 (3 * 2 ^ 40 + 1) ≡ 3
  -- where they are not, the high words decide
  pub high_below : (word₁ : ℕ) → base_sample_by one_high 6 word₁ ≡ 0
  pub high_above : (word₁ : ℕ) → base_sample_by one_high 8 word₁ ≡ 10
  --
  -- ** Our own: exponential
  -- R, and the largest N of an attempt and of a response: at A and Z within their limits, 2|I| is at most 2 * 215 * 12,872
  pub reciprocal_is : reciprocal divisor ≡ 3269134179596076729
  pub attempt_limit_lem : attempt_limit ≡ exponent 10 255
  pub limit_by_norms : limit ≡ 2 * 215 * 12872
  pub exp_1370625 : exp 1370625 ≡ 1679544596975
  -- the last N whose e(N) is not 0, and the first whose is
  pub exp_last : exp 4037131 ≡ 1
  pub exp_none : exp 4037132 ≡ 0
  -- by N alone: the largest N is served
  pub alone_last : exp_or_refusal 5534960 ≡ 0
  --
  -- ** Our own: attempt
  -- word 3 = e(N) - 1 is accepted and e(N) is not, whatever its top two bits are: x = 1, b = 1; x = 10, b = 255, sign 1
  pub word_3_below : (top : ℕ) → bit_at e even_thresholds (four (2 ^ 40) 0 1 (top * 2 ^ 62 + 4586166892218597801)) 0 ≡ true
  pub word_3_at : (top : ℕ) → bit_at e even_thresholds (four (2 ^ 40) 0 1 (top * 2 ^ 62 + 4586166892218597802)) 0 ≡ false
  pub word_3_below_largest : (top : ℕ) → bit_at e even_thresholds (four (10 * 2 ^ 40) 0 511 (top * 2 ^ 62 + 1679544596974)) 0 ≡ true
  pub word_3_at_largest : (top : ℕ) → bit_at e even_thresholds (four (10 * 2 ^ 40) 0 511 (top * 2 ^ 62 + 1679544596975)) 0 ≡ false
  -- bits 9 to 63 of word 2 do not count
  pub word_2_by_9_bits : (rest word₃ : ℕ) → sample_at even_thresholds (four (2 ^ 40) 0 (rest * 2 ^ 9 + 257) word₃) 0 ≡ negsuc 256
  -- the largest sizes, of both signs
  pub largest : (word₃ : ℕ) → sample_at even_thresholds (four (10 * 2 ^ 40) 0 255 word₃) 0 ≡ pos 2815
  pub smallest : (word₃ : ℕ) → sample_at even_thresholds (four (10 * 2 ^ 40) 0 511 word₃) 0 ≡ negsuc 2814
  -- b = 0 with sign 1 is accepted where x is not 0, since its size is not 0
  pub minus_256 : (word₃ : ℕ) → sample_at even_thresholds (four (2 ^ 40) 0 256 word₃) 0 ≡ negsuc 255
  pub minus_256_bit : (word₃ : ℕ) → bit_at e even_thresholds (four (2 ^ 40) 0 256 word₃) 0 ≡ true
  --
  -- ** Our own: challenge product
  -- the second half uses s2 in the same way, whatever s1 is
  pub second_half_1 : (a b c d : ℤ) → drop 4 (product (a ∷ b ∷ c ∷ d ∷ one_to_four) 4 (1 ∷ []))
      ≡ negsuc 3 ∷ pos 1 ∷ pos 2 ∷ pos 3 ∷ []
  pub second_half_0_3 : (a b c d : ℤ) → drop 4 (product (a ∷ b ∷ c ∷ d ∷ one_to_four) 4 (0 ∷ 3 ∷ []))
      ≡ negsuc 0 ∷ negsuc 0 ∷ negsuc 0 ∷ pos 5 ∷ []
  --
  -- ** Our own: respond
  -- A is at most 215 ^ 2
  pub squares_limit_lem : squares_limit ≡ 215 ^ 2
  -- a value of z goes to 2,815 and 64 * 7
  pub response_bound_lem : response_bound ≡ 3263
  -- g is bit 0 of word 0, and its other bits do not count: z = y + Sc where it is 0, else y - Sc
  pub g_0 : (rest : ℕ) → subtracts (2 * rest) ≡ false
  pub g_1 : (rest : ℕ) → subtracts (2 * rest + 1) ≡ true
  pub z_plus : (rest word₁ word₂ : ℕ)
      → response_z (pos 10 ∷ pos 2 ∷ []) (pos 3 ∷ negsuc 4 ∷ []) (three (2 * rest) word₁ word₂)
      ≡ pos 13 ∷ negsuc 2 ∷ []
  pub z_minus : (rest word₁ word₂ : ℕ)
      → response_z (pos 10 ∷ pos 2 ∷ []) (pos 3 ∷ negsuc 4 ∷ []) (three (2 * rest + 1) word₁ word₂)
      ≡ pos 7 ∷ pos 7 ∷ []
  -- A = 46,225 may pass: N1 is 0, and every word 1 passes; z = 0, so that I is 0, and every word 2 passes
  pub largest_a : (word₁ word₂ : ℕ) → bit_over (negsuc 214) (pos 215) (three 0 word₁ word₂) ≡ true
  -- a larger one never
  pub larger_a : (n : ℕ) (y sc : List ℤ) (words : List ℕ) → 46225 < square_sum sc → response_bit e n y sc words ≡ false
  -- Z = 165,688,384 may pass: it is 64 * 1,609 ^ 2
  pub largest_z : (word₂ : ℕ) → response_bit e 32 (replicate 64 (pos 1609)) (replicate 64 (pos 0)) (three 0 0 word₂) ≡ true
  -- a larger one never
  pub larger_z : (n : ℕ) (y sc : List ℤ) (words : List ℕ) → 165688384 < square_sum (response_z y sc words)
      → response_bit e n y sc words ≡ false
  -- word 1 = e(N1) - 1 passes and e(N1) does not, whatever its top two bits are: A = 0, N1 = 46,225; I = 0
  pub word_1_below : (top word₂ : ℕ) → bit_over (pos 5) (pos 0) (three 0 (top * 2 ^ 62 + 2797128963144291368) word₂) ≡ true
  pub word_1_at : (top word₂ : ℕ) → bit_over (pos 5) (pos 0) (three 0 (top * 2 ^ 62 + 2797128963144291369) word₂) ≡ false
  -- the largest word 2 that passes, and the next: A = 46,225, and I is 46,225 where g is 0, -46,225 where it is 1; N2 = 92,450
  pub word_2_below : (top word₁ : ℕ) → bit_over (pos 0) (pos 215) (three 0 word₁ (top * 2 ^ 62 + 2988622833037856521)) ≡ true
  pub word_2_above : (top word₁ : ℕ) → bit_over (pos 0) (pos 215) (three 0 word₁ (top * 2 ^ 62 + 2988622833037856522)) ≡ false
  pub word_2_below_minus : (top word₁ : ℕ) → bit_over (pos 0) (pos 215) (three 1 word₁ (top * 2 ^ 62 + 2988622833037856521)) ≡ true
  pub word_2_above_minus : (top word₁ : ℕ)
      → bit_over (pos 0) (pos 215) (three 1 word₁ (top * 2 ^ 62 + 2988622833037856522)) ≡ false
  -- the cosh test at its edge: both sides have the same high word, and their low words decide
  pub cosh_low_below : cosh_passes (e 92450) 2988622833037856521 ≡ true
  pub cosh_low_above : cosh_passes (e 92450) 2988622833037856522 ≡ false
  -- their high words decide
  pub cosh_high_below : cosh_passes (e 6120) 4601599844394352459 ≡ true
  pub cosh_high_above : cosh_passes (e 6120) 4601599844394352460 ≡ false
  -- e = 1: at word 2 = 2 both sides are equal
  pub cosh_below_equal : cosh_passes (e 4037131) 1 ≡ true
  pub cosh_equal : cosh_passes (e 4037131) 2 ≡ false
