-- Numbers of two digits, in a base that both low digits are below: one is below another where its high digit is below the other's, to which 1 is
-- added where its low digit is below the other's too. Assumes nothing.
use mathlib.Core.Path.{◌≡◌, refl, sym}
use mathlib.Core.Bool.{Bool, true, false}
use Prim.Native.Nat.{ℕ, ◌+◌, ◌*◌, ◌≤◌, ◌<◌}
use native.Mathlib.Nat.{mul-le-mul_right}
use native.Mathlib.Omega.{arith}
use lib.Dec.{ltb}
use borrow.Author.Tests.{lt-ltb, le-ltb, ltb-true, ltb-false}
use Rattle.arithmetic.specs.Words.{bit}

module _ (B h l h' l' : ℕ) (lb : l < B) (lb' : l' < B) where
  below : h * B + l < h' * B + l' → true ≡ ltb (h * B + l) (h' * B + l')
  below k = sym (lt-ltb (h * B + l) (h' * B + l') k)

  not_below : h' * B + l' ≤ h * B + l → false ≡ ltb (h * B + l) (h' * B + l')
  not_below k = sym (le-ltb (h * B + l) (h' * B + l') k)

  by : (t s : Bool) → ltb l l' ≡ t → ltb h (h' + bit t) ≡ s → s ≡ ltb (h * B + l) (h' * B + l')
  by true true e f =
      let k : h ≤ h' = omega (arith, ltb-true h (h' + 1) f) in
      below (omega (arith, mul-le-mul_right B k, ltb-true l l' e))
  by true false e f =
      let k : h' < h = omega (arith, ltb-false h (h' + 1) f) in
      not_below (omega (arith, mul-le-mul_right B k))
  by false true e f =
      let k : h < h' = omega (arith, ltb-true h (h' + 0) f) in
      below (omega (arith, mul-le-mul_right B k))
  by false false e f =
      let k : h' ≤ h = omega (arith, ltb-false h (h' + 0) f) in
      not_below (omega (arith, mul-le-mul_right B k, ltb-false l l' e))

  pub digits_order : ltb h (h' + bit (ltb l l')) ≡ ltb (h * B + l) (h' * B + l')
  digits_order = by (ltb l l') (ltb h (h' + bit (ltb l l'))) refl refl
