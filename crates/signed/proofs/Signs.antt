-- Laws of signed numbers: their absolute values, what fits a width, and signs as numbers. Assumes nothing.
use mathlib.Core.Path.{◌≡◌, refl, sym, ap, subst, ◌∙◌}
use mathlib.Core.Bool.{Bool, true, false, cond}
use Prim.Native.Nat.{◌+◌, ◌*◌, ◌^◌, ◌≤◌, ◌<◌}
use native.Mathlib.Omega.{arith}
use Rattle.std.proofs.lemmas.Int.{ints, unsigned_abs-mul, fits_signed_from_abs}
use lib.IntN.{ℤ, pos, negsuc, neg_ℤ, ◌+ℤ◌, ◌-ℤ◌, ◌*ℤ◌, nat_abs, one, *ℤ-one, *ℤ-negsuc}
use mir.Syntax.{Width}
use mir.Val.{SFits, to_z, of_z, hbits}
use mir.ValLaws.{to_z-of_z}
use Rattle.signed.specs.Signs.{sign}

-- ** Absolute values

pub abs_neg : (a : ℤ) → nat_abs (neg_ℤ a) ≡ nat_abs a
abs_neg a = omega (arith, ints)

pub abs_add : (a b : ℤ) → nat_abs (a +ℤ b) ≤ nat_abs a + nat_abs b
abs_add a b = omega (arith, ints)

pub abs_mul : (a b : ℤ) → nat_abs (a *ℤ b) ≡ nat_abs a * nat_abs b
abs_mul a b = unsigned_abs-mul a b

-- a square has no sign
pub square_is : (v : ℤ) → v *ℤ v ≡ pos (nat_abs v * nat_abs v)
square_is (pos m) = refl
square_is (negsuc m) = refl

-- ** What fits a width

pub fits_of_abs : {w : Width} {z : ℤ} → nat_abs z < 2 ^ hbits w → SFits w z
fits_of_abs {w} {z} h = fits_signed_from_abs w z h

-- a value that fits is read from its bits as it is
pub read_back : {w : Width} {z : ℤ} → SFits w z → to_z w (of_z w z) ≡ z
read_back {w} {z} f = to_z-of_z w z f

-- 0 - z, as the code has -z
pub zero_minus : (z : ℤ) → pos 0 -ℤ z ≡ neg_ℤ z
zero_minus z = omega (arith, ints)

pub zero_minus_fits : {w : Width} (z : ℤ) → nat_abs z < 2 ^ hbits w → SFits w (pos 0 -ℤ z)
zero_minus_fits {w} z h = fits_of_abs (omega (arith, ints))

-- a product that fits, as the code has it
module _ {w : Width} {a b : ℤ} (fa : SFits w a) (fb : SFits w b) (h : nat_abs a * nat_abs b < 2 ^ hbits w) where
  plain : to_z w (of_z w a) *ℤ to_z w (of_z w b) ≡ a *ℤ b
  plain = rw (read_back fa, read_back fb)

  pub product_fits : SFits w (to_z w (of_z w a) *ℤ to_z w (of_z w b))
  product_fits = subst (SFits w) (sym plain) (fits_of_abs (rw (abs_mul a b) h))

  pub product_value : to_z w (of_z w (to_z w (of_z w a) *ℤ to_z w (of_z w b))) ≡ a *ℤ b
  product_value = read_back product_fits ∙ plain

-- ** Signs

pub times_sign : (z : ℤ) (negative : Bool) → z *ℤ sign negative ≡ cond negative (neg_ℤ z) z
unfolding one
times_sign z true = *ℤ-negsuc z 0 ∙ ap neg_ℤ (*ℤ-one z)
times_sign z false = *ℤ-one z
