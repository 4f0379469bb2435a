-- Laws of numbers and their bits. Assumes nothing.
use mathlib.Core.Path.{◌≡◌, refl, sym, ap, ◌∙◌}
use mathlib.Core.Bool.{Bool, true, false}
use Prim.Native.Nat.{ℕ, zero, suc, ◌+◌, ◌-◌, ◌*◌, ◌/◌, ◌%◌, ◌^◌, ◌<◌}
use native.Mathlib.Nat.{add-zero, add-suc, add_assoc, pow-suc, mod-lt, one-le-pow, zero-div}
use native.Mathlib.Omega.{arith}
use lib.Dec.{eqb, lit<}
use lib.Arith.{digits_div, digits_mod}
use lib.Pow.{shl_exact}
use mir.Val.{bool_byte}
use Rattle.bits.specs.Bits.{odd, number}

-- ** The lowest bit

two_digits : (d : ℕ) → d < 2 → bool_byte (eqb d 1) ≡ d
two_digits zero h = refl
two_digits (suc zero) h = refl
two_digits (suc (suc d)) h = absurd (omega arith)

pub odd_digit : (x : ℕ) → bool_byte (odd x) ≡ x % 2
odd_digit x = two_digits (x % 2) (mod-lt x (lit< tt))

pub odd_twice : (x : ℕ) (b : Bool) → odd (2 * x + bool_byte b) ≡ b
odd_twice x true = let e : (2 * x + 1) % 2 ≡ 1 = omega arith in rw e
odd_twice x false = let e : (2 * x + 0) % 2 ≡ 0 = omega arith in rw e

pub bit_odd : (b : Bool) → odd (bool_byte b) ≡ b
bit_odd true = refl
bit_odd false = refl

pub bit_below : (b : Bool) → bool_byte b < 2
bit_below true = lit< tt
bit_below false = lit< tt

pub power_positive : (w : ℕ) → 0 < 2 ^ w
power_positive w = one-le-pow w 2 (lit< tt)

-- a one that is moved up, and stays within a word
pub shifted_one : (w wide : ℕ) → w < wide → 1 * 2 ^ w % 2 ^ wide ≡ 2 ^ w
shifted_one w wide l = shl_exact {a = 1} 1 w wide (lit< tt) (omega arith) ∙ omega arith

-- ** The number that a stream has from a place on

module _ (s : ℕ → Bool) where
  pub number_below : (at w : ℕ) → number s at w < 2 ^ w
  unfolding number
  number_below at zero = lit< tt
  number_below at (suc w) = rw (pow-suc 2 w) (omega (arith, number_below at w, bit_below (s (at + w))))

  -- the number of so many bits and more is made of those of both parts
  pub number_split : (at a b : ℕ) → number s at (a + b) ≡ number s at a * 2 ^ b + number s (at + a) b
  unfolding number
  number_split at a zero = rw (add-zero a) (omega arith)
  number_split at a (suc b) =
      rw (add-suc a b, pow-suc 2 b, add_assoc at a b)
      (omega (arith, number_split at a b))

  -- the first bit, and the number of the others
  pub number_first : (at w : ℕ) → number s at (suc w) ≡ bool_byte (s at) * 2 ^ w + number s (suc at) w
  unfolding number
  number_first at zero = rw (add-zero at) (omega arith)
  number_first at (suc w) = let e : at + suc w ≡ suc at + w = omega arith in rw (e, pow-suc 2 w) (omega (arith, number_first at w))

  -- the number of some bits in the middle
  pub number_part : (at r w t : ℕ) → number s at (r + w + t) / 2 ^ t % 2 ^ w ≡ number s (at + r) w
  number_part at r w t =
      ap (λ (x : ℕ). x / 2 ^ t % 2 ^ w) (number_split at (r + w) t)
      ∙ ap (λ (x : ℕ). x % 2 ^ w) (digits_div (number s at (r + w)) (number_below (at + (r + w)) t))
      ∙ ap (λ (x : ℕ). x % 2 ^ w) (number_split at r w)
      ∙ digits_mod (number s at r) (number_below (at + r) w)

  -- each bit of the number is that of the stream
  pub number_bit : (at j r : ℕ) → odd (number s at (suc j + r) / 2 ^ r) ≡ s (at + j)
  unfolding number
  number_bit at j r =
      let e : number s at (suc j + r) / 2 ^ r ≡ number s at (suc j) = ap (λ (x : ℕ). x / 2 ^ r) (number_split at (suc j) r) ∙ digits_div (number s at (suc j)) (number_below (at + suc j) r) in
      ap odd e ∙ odd_twice (number s at j) (s (at + j))

  -- zeros are the number 0
  pub number_zero : (at w : ℕ) → ((i : ℕ) → i < w → s (at + i) ≡ false) → number s at w ≡ 0
  unfolding number
  number_zero at zero h = refl
  number_zero at (suc w) h = rw (number_zero at w (λ i l. h i (omega arith)), h w (omega arith))

  -- and only they are
  pub zero_number : (at w : ℕ) → number s at w ≡ 0 → (i : ℕ) → i < w → s (at + i) ≡ false
  zero_number at w h i l =
      let e : w ≡ suc i + (w - suc i) = omega arith in
      sym (number_bit at i (w - suc i)) ∙ ap (λ (x : ℕ). odd (x / 2 ^ (w - suc i))) (ap (number s at) (sym e) ∙ h) ∙ rw (zero-div (2 ^ (w - suc i)))

-- streams that agree have the same number
pub number_same : (s t : ℕ → Bool) (at to w : ℕ) → ((i : ℕ) → i < w → s (at + i) ≡ t (to + i)) → number s at w ≡ number t to w
unfolding number
number_same s t at to zero h = refl
number_same s t at to (suc w) h = rw (number_same s t at to w (λ i l. h i (omega arith)), h w (omega arith))

pub bit_is_one : (b : Bool) → eqb (bool_byte b) 1 ≡ b
bit_is_one true = refl
bit_is_one false = refl
