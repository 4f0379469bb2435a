-- What a stream of bits has from a place on. Assumes nothing.
use mathlib.Core.Path.{◌≡◌, refl, sym, ap, ap₂, ◌∙◌}
use mathlib.Core.Bool.{Bool, true, false, cond}
use mathlib.Core.List.{List, [], ◌∷◌, ◌++◌}
use Prim.Native.Nat.{ℕ, zero, suc, ◌+◌, ◌*◌, ◌/◌, ◌%◌, ◌^◌, ◌≤◌, ◌<◌}
use native.Mathlib.Nat.{add_comm, add-zero, add-suc, suc-add, pow-suc, mod-one, not-suc-le-zero, le_of_suc-le-suc, add-mul-div_right}
use native.Mathlib.Omega.{arith}
use lib.Dec.{lit<}
use lib.Arith.{mod-mul}
use lib.Pow.{split}
use lib.Count.{count_leading_zeros, leading_unique}
use lib.ListN.{length, get_or, replicate}
use Rattle.bits.specs.Bits.{odd, digits, number, zeros}
use Rattle.bits.proofs.Numbers.{odd_digit, power_positive, number_bit, number_first, number_below}

-- a stream has a list of bits from a place on
abbrev pub Holds : (stream : ℕ → Bool) (at : ℕ) (bits : List Bool) → Type 0
Holds s at [] = Unit {0}
Holds s at (b ∷ bits) = (s at ≡ b) × Holds s (suc at) bits

pub length_digits : (w x : ℕ) → length (digits w x) ≡ w
unfolding digits
length_digits zero x = refl
length_digits (suc w) x = ap suc (length_digits w x)

module _ (s : ℕ → Bool) where
  -- ** Part by part, and bit by bit

  pub holds_first : (at : ℕ) (xs ys : List Bool) → Holds s at (xs ++ ys) → Holds s at xs
  holds_first at [] ys h = tt
  holds_first at (x ∷ xs) ys h = (h.0, holds_first (suc at) xs ys h.1)

  pub holds_rest : (at : ℕ) (xs ys : List Bool) → Holds s at (xs ++ ys) → Holds s (at + length xs) ys
  holds_rest at [] ys h = rw (add-zero at) h
  holds_rest at (x ∷ xs) ys h = rw (add-suc at (length xs), ← suc-add at (length xs)) (holds_rest (suc at) xs ys h.1)

  pub holds_both : (at : ℕ) (xs ys : List Bool) → Holds s at xs → Holds s (at + length xs) ys → Holds s at (xs ++ ys)
  holds_both at [] ys h g = rw (add-zero at) at g
  holds_both at (x ∷ xs) ys h g = (h.0, holds_both (suc at) xs ys h.1 (rw (add-suc at (length xs), ← suc-add at (length xs)) at g))

  pub holds_at : (at : ℕ) (bits : List Bool) → Holds s at bits → (i : ℕ) → i < length bits → s (at + i) ≡ get_or bits i false
  holds_at at [] h i l = absurd (not-suc-le-zero l)
  holds_at at (b ∷ bits) h zero l = ap s (add-zero at) ∙ h.0
  holds_at at (b ∷ bits) h (suc i) l = ap s (add-suc at i ∙ sym (suc-add at i)) ∙ holds_at (suc at) bits h.1 i (le_of_suc-le-suc l)

  pub holds_of : (at : ℕ) (bits : List Bool) → ((i : ℕ) → i < length bits → s (at + i) ≡ get_or bits i false) → Holds s at bits
  holds_of at [] h = tt
  holds_of at (b ∷ bits) h =
      (ap s (sym (add-zero at)) ∙ h 0 (omega arith), holds_of (suc at) bits (λ i l. ap s (suc-add at i ∙ sym (add-suc at i)) ∙ h (suc i) (omega arith)))

  -- ** Numbers

  pub holds_digits : (at w x : ℕ) → ((i r : ℕ) → suc i + r ≡ w → s (at + i) ≡ odd (x / 2 ^ r)) → Holds s at (digits w x)
  unfolding digits
  holds_digits at zero x h = tt
  holds_digits at (suc w) x h =
      (ap s (sym (add-zero at)) ∙ h 0 w (omega arith), holds_digits (suc at) w x (λ i r e. ap s (suc-add at i ∙ sym (add-suc at i)) ∙ h (suc i) r (omega (arith, e))))

  -- the number that is read is there
  pub holds_number : (at w : ℕ) → Holds s at (digits w (number s at w))
  holds_number at w = holds_digits at w (number s at w) (λ i r e. sym (number_bit s at i r) ∙ ap (λ (v : ℕ). odd (number s at v / 2 ^ r)) e)

  -- and what is there is read
  pub number_holds : (at w x : ℕ) → Holds s at (digits w x) → number s at w ≡ x % 2 ^ w
  unfolding number digits
  number_holds at zero x h = sym (mod-one x)
  number_holds at (suc w) x h =
      number_first s at w
      ∙ rw (h.0, odd_digit (x / 2 ^ w), number_holds (suc at) w x h.1, pow-suc 2 w)
      (sym (ap (λ (m : ℕ). x % m) (omega arith) ∙ mod-mul x {m = 2} {c = 2 ^ w} (lit< tt) (power_positive w)))

  -- ** Zeros before a one

  pub holds_zeros : (at most : ℕ) → zeros s at most < most → Holds s at (replicate (zeros s at most) false ++ (true ∷ []))
  unfolding zeros
  holds_zeros at zero h = absurd (not-suc-le-zero h)
  holds_zeros at (suc most) h = by (s at) refl (holds_zeros (suc at) most) h
    where
      by : (b : Bool) → s at ≡ b → (zeros s (suc at) most < most → Holds s (suc at) (replicate (zeros s (suc at) most) false ++ (true ∷ []))) → cond b 0 (suc (zeros s (suc at) most)) < suc most
          → Holds s at (replicate (cond b 0 (suc (zeros s (suc at) most))) false ++ (true ∷ []))
      by true e rest l = (e, tt)
      by false e rest l = (e, rest (le_of_suc-le-suc l))

  pub zeros_holds : (at most k : ℕ) → k < most → Holds s at (replicate k false ++ (true ∷ [])) → zeros s at most ≡ k
  unfolding zeros
  zeros_holds at zero k l h = absurd (not-suc-le-zero l)
  zeros_holds at (suc most) zero l h = rw h.0
  zeros_holds at (suc most) (suc k) l h = rw h.0 (ap suc (zeros_holds (suc at) most k (le_of_suc-le-suc l) h.1))

  pub zeros_most : (at most : ℕ) → zeros s at most ≤ most
  unfolding zeros
  zeros_most at zero = omega arith
  zeros_most at (suc most) = by (s at) (zeros_most (suc at) most)
    where
      by : (b : Bool) → zeros s (suc at) most ≤ most → cond b 0 (suc (zeros s (suc at) most)) ≤ suc most
      by true h = omega arith
      by false h = omega arith

  -- how far below 2 ^ most the number of so many bits is, by the zeros before its one
  record Top (at most : ℕ) : Type 0 where
    m : ℕ
    sum : zeros s at most + m ≡ most
    below : number s at most < 2 ^ m
    above : 2 ^ m ≤ 2 * number s at most + 1

  top : (at most : ℕ) → Top at most
  unfolding zeros number
  top at zero = record { m = 0; sum = refl; below = lit< tt; above = lit< tt }
  top at (suc most) = by (s at) refl (top (suc at) most)
    where
      by : (b : Bool) → s at ≡ b → Top (suc at) most → Top at (suc most)
      by true e t = record {
        m = suc most;
        sum = rw e (omega arith);
        below = number_below s at (suc most);
        above = rw (number_first s at most, e, pow-suc 2 most) (omega arith);
      }
      by false e t =
          let same : number s at (suc most) ≡ number s (suc at) most = number_first s at most ∙ rw e (omega arith) in
          record {
            m = t.m;
            sum = rw e (omega (arith, t.sum));
            below = rw same t.below;
            above = rw same t.above;
          }

  -- the zeros are those that lead the number, behind the zeros of a wider one
  pub leading_zeros : (wider at most : ℕ) → count_leading_zeros (wider + most) (number s at most) ≡ wider + zeros s at most
  leading_zeros wider at most =
      let t = top at most in
      sym (leading_unique (wider + most) (number s at most) (wider + zeros s at most) t.m (omega (arith, t.sum)) t.below t.above)

-- the lowest bits do not see what is above them
pub digits_low : (w x y : ℕ) → digits w (x + y * 2 ^ w) ≡ digits w x
unfolding digits
digits_low zero x y = refl
digits_low (suc w) x y =
    let e : x + y * (2 ^ w * 2) ≡ x + (2 * y) * 2 ^ w = omega arith in
    let f : (x / 2 ^ w + 2 * y) % 2 ≡ x / 2 ^ w % 2 = omega arith in
    rw (pow-suc 2 w, e) (ap₂ ◌∷◌ (rw (add-mul-div_right x (2 * y) {z = 2 ^ w} (power_positive w), f)) (digits_low w x (2 * y)))

pub digits_of_low : (w x : ℕ) → digits w (x % 2 ^ w) ≡ digits w x
digits_of_low w x = sym (digits_low w (x % 2 ^ w) (x / 2 ^ w)) ∙ ap (digits w) (add_comm (x % 2 ^ w) _ ∙ split x w)
