-- The known points. Those that leave no word open are computed. Assumes nothing.
use mathlib.Core.Path.{◌≡◌, refl, ap, ap₂, ◌∙◌}
use mathlib.Core.Bool.{true, false, ◌&&◌, and-false}
use mathlib.Core.List.{List, [], ◌∷◌}
use Prim.Native.Nat.{ℕ, ◌+◌, ◌-◌, ◌*◌, ◌/◌, ◌%◌, ◌^◌, ◌≤◌, ◌<◌}
use native.Mathlib.Nat.{mul-lt-mul_of_pos_right}
use native.Mathlib.Omega.{arith}
use lib.Pow.{pow_pos}
use lib.Dec.{leb, ltb, eqb}
use lib.IntN.{ℤ, pos, negsuc}
use borrow.Author.Tests.{lt-ltb, le-ltb, lt-leb}
use Rattle.signed.specs.Vectors.{square_sum}
use Rattle.base_sample.specs.BaseSample.{threshold, never_falls, base_sample}
use Rattle.known_points.specs.EvenThresholds.{even_thresholds}
use Rattle.base_sample.proofs.BaseSampleLaws.{rising, base_sample_exactly, base_sample_rises}
use Rattle.attempt.specs.Attempt.{accepts, sample}
use Rattle.acceptance.specs.Acceptance.{cosh_passes, all_pass, accepts_by}
use Rattle.response.specs.Response.{response_of, response_z, measures_of, response_bit}
use Rattle.known_points.specs.KnownPoints.{e, one_high, KnownPoints}
use Rattle.known_points.proofs.Computing.{tables, refusals, exponentials, attempts, responses}

-- ** Words

low_small : (word : ℕ) → word % 2 ^ 62 < 2 ^ 62
low_small word = omega arith

low_below_one : (word : ℕ) → ltb (word % 2 ^ 62) (2 ^ 62) ≡ true
low_below_one word = lt-ltb (word % 2 ^ 62) (2 ^ 62) (low_small word)

-- 62 of a word, whatever its top two bits are
top_cut : (top low : ℕ) → (top * 2 ^ 62 + low) % 2 ^ 62 ≡ low % 2 ^ 62
top_cut top low = omega arith

top_alone : (top : ℕ) → top * 2 ^ 62 % 2 ^ 62 ≡ 0
top_alone top = omega arith

low_8_of_257 : (rest : ℕ) → (rest * 2 ^ 9 + 257) % 2 ^ 8 ≡ 1
low_8_of_257 rest = omega arith

bit_8_of_257 : (rest : ℕ) → (rest * 2 ^ 9 + 257) / 2 ^ 8 % 2 ≡ 1
bit_8_of_257 rest = omega arith

bit_0_of_even : (rest : ℕ) → 2 * rest % 2 ≡ 0
bit_0_of_even rest = omega arith

bit_0_of_odd : (rest : ℕ) → (2 * rest + 1) % 2 ≡ 1
bit_0_of_odd rest = omega arith

-- ** Base sample

at_most_10 : (cdt : List ℕ) (d : ℕ) → never_falls (threshold cdt) ≡ true → base_sample cdt d ≤ 10
at_most_10 cdt d never = ((base_sample_exactly cdt d (base_sample cdt d) (rising cdt never)).0 refl).at_most

ten_above : (cdt : List ℕ) (d d' : ℕ) → never_falls (threshold cdt) ≡ true → base_sample cdt d ≡ 10 → d ≤ d' → base_sample cdt d' ≡ 10
ten_above cdt d d' never ten h = omega (arith, at_most_10 cdt d' never, base_sample_rises cdt d d' h)

zero_below : (cdt : List ℕ) (d d' : ℕ) → base_sample cdt d' ≡ 0 → d ≤ d' → base_sample cdt d ≡ 0
zero_below cdt d d' none h = omega (arith, base_sample_rises cdt d d' h)

-- x over document 01's thresholds, by the high and the low part of d
abbrev by_parts : (high low : ℕ) → ℕ
by_parts high low = base_sample even_thresholds (high * 2 ^ 62 + low)

-- ** Respond

pub cosh_one : (word : ℕ) → cosh_passes (2 ^ 62) word ≡ true
unfolding cosh_passes
cosh_one word = lt-ltb (word % 2 ^ 62 * 2 ^ 63) (2 ^ 62 * 2 ^ 63) (mul-lt-mul_of_pos_right (low_small word) (pow_pos 63))

cosh_zero : (word : ℕ) → cosh_passes 0 word ≡ false
unfolding cosh_passes
cosh_zero word = le-ltb (word % 2 ^ 62 * 2 ^ 62) 0 (omega arith)

cosh_cut : (e₂ top low : ℕ) → cosh_passes e₂ (top * 2 ^ 62 + low) ≡ cosh_passes e₂ low
unfolding cosh_passes
cosh_cut e₂ top low = rw (top_cut top low)

-- where A is too large no other test counts
a_too_large : (by : ℕ → ℕ) (n : ℕ) (y sc : List ℤ) (words : List ℕ) → 46225 < square_sum sc → response_bit by n y sc words ≡ false
unfolding response_bit accepts_by all_pass measures_of
a_too_large by n y sc words h = rw (lt-leb (square_sum sc) 46225 h)

-- nor where Z is
z_too_large : (by : ℕ → ℕ) (n : ℕ) (y sc : List ℤ) (words : List ℕ) → 165688384 < square_sum (response_z y sc words)
    → response_bit by n y sc words ≡ false
unfolding response_bit accepts_by all_pass measures_of
z_too_large by n y sc words h = rw (lt-leb (square_sum (response_z y sc words)) 165688384 h, and-false (leb (square_sum sc) 46225))

-- ** The points

pub known_points : KnownPoints
unfolding tables refusals exponentials attempts responses one_high
known_points = record {
  lowest_d = refl;
  d_below_first = refl;
  d_at_first = refl;
  highest_d = λ word₁. ten_above even_thresholds ((2 ^ 62 - 1) * 2 ^ 62) ((2 ^ 62 - 1) * 2 ^ 62 + word₁ % 2 ^ 62) refl refl (omega arith);
  exponent_513 = refl;
  largest_exponent = refl;
  exp_0 = refl;
  minus_one = λ cdt word₀ word₁ word₃ x_0. ap (λ (x : ℕ). sample x 1 true) x_0;
  minus_zero_size = λ word₀ word₁ word₃. refl;
  minus_zero_sign = λ word₀ word₁ word₃. refl;
  minus_zero_bit = λ cdt word₀ word₁ word₃ x_0.
      ap (λ (x : ℕ). accepts e x 0 true (word₃ % 2 ^ 62)) x_0 ∙ and-false (ltb (word₃ % 2 ^ 62) (2 ^ 62));
  zero_sample = λ cdt word₀ word₁ word₃ x_0. ap (λ (x : ℕ). sample x 0 false) x_0;
  zero_bit = λ cdt word₀ word₁ word₃ x_0.
      ap (λ (x : ℕ). accepts e x 0 false (word₃ % 2 ^ 62)) x_0 ∙ ap (λ t. t && true) (low_below_one word₃);
  challenge_1 = λ s2. refl;
  challenge_0_3 = λ s2. refl;
  cosh_at_one = cosh_one;
  cosh_at_zero = cosh_zero;
  even_is_cdt = refl;
  one_high_is_cdt = refl;
  d_below_by_62_bits = λ top₀ top₁. ap₂ by_parts (top_cut top₀ (2 ^ 40 - 1)) (top_cut top₁ (2 ^ 62 - 1));
  d_at_by_62_bits = λ top₀ top₁. ap₂ by_parts (top_cut top₀ (2 ^ 40)) (top_alone top₁);
  low_below = refl;
  low_at = refl;
  low_above = refl;
  high_below = λ word₁. zero_below one_high (6 * 2 ^ 62 + word₁ % 2 ^ 62) (6 * 2 ^ 62 + (2 ^ 62 - 1)) refl (omega arith);
  high_above = λ word₁. ten_above one_high (8 * 2 ^ 62) (8 * 2 ^ 62 + word₁ % 2 ^ 62) refl refl (omega arith);
  reciprocal_is = refl;
  attempt_limit_lem = refl;
  limit_by_norms = refl;
  exp_1370625 = refl;
  exp_last = refl;
  exp_none = refl;
  alone_last = refl;
  word_3_below = λ top. ap (accepts e 1 1 false) (top_cut top 4586166892218597801);
  word_3_at = λ top. ap (accepts e 1 1 false) (top_cut top 4586166892218597802);
  word_3_below_largest = λ top. ap (accepts e 10 255 true) (top_cut top 1679544596974);
  word_3_at_largest = λ top. ap (accepts e 10 255 true) (top_cut top 1679544596975);
  word_2_by_9_bits = λ rest word₃. ap₂ (λ (b bit : ℕ). sample 1 b (eqb bit 1)) (low_8_of_257 rest) (bit_8_of_257 rest);
  largest = λ word₃. refl;
  smallest = λ word₃. refl;
  minus_256 = λ word₃. refl;
  minus_256_bit = λ word₃. ap (λ t. t && true) (low_below_one word₃);
  second_half_1 = λ a b c d. refl;
  second_half_0_3 = λ a b c d. refl;
  squares_limit_lem = refl;
  response_bound_lem = refl;
  g_0 = λ rest. ap (λ (bit : ℕ). eqb bit 1) (bit_0_of_even rest);
  g_1 = λ rest. ap (λ (bit : ℕ). eqb bit 1) (bit_0_of_odd rest);
  z_plus = λ rest word₁ word₂. ap (λ (bit : ℕ). response_of (eqb bit 1) (pos 10 ∷ pos 2 ∷ []) (pos 3 ∷ negsuc 4 ∷ [])) (bit_0_of_even rest);
  z_minus = λ rest word₁ word₂. ap (λ (bit : ℕ). response_of (eqb bit 1) (pos 10 ∷ pos 2 ∷ []) (pos 3 ∷ negsuc 4 ∷ [])) (bit_0_of_odd rest);
  largest_a = λ word₁ word₂. ap₂ ◌&&◌ (low_below_one word₁) (cosh_one word₂);
  larger_a = a_too_large e;
  largest_z = cosh_one;
  larger_z = z_too_large e;
  word_1_below = λ top word₂. ap₂ (λ (low : ℕ) t. ltb low 2797128963144291369 && t) (top_cut top 2797128963144291368) (cosh_one word₂);
  word_1_at = λ top word₂. ap₂ (λ (low : ℕ) t. ltb low 2797128963144291369 && t) (top_cut top 2797128963144291369) (cosh_one word₂);
  word_2_below = λ top word₁. ap₂ ◌&&◌ (low_below_one word₁) (cosh_cut (e 92450) top 2988622833037856521);
  word_2_above = λ top word₁. ap₂ ◌&&◌ (low_below_one word₁) (cosh_cut (e 92450) top 2988622833037856522);
  word_2_below_minus = λ top word₁. ap₂ ◌&&◌ (low_below_one word₁) (cosh_cut (e 92450) top 2988622833037856521);
  word_2_above_minus = λ top word₁. ap₂ ◌&&◌ (low_below_one word₁) (cosh_cut (e 92450) top 2988622833037856522);
  cosh_low_below = refl;
  cosh_low_above = refl;
  cosh_high_below = refl;
  cosh_high_above = refl;
  cosh_below_equal = refl;
  cosh_equal = refl;
}
