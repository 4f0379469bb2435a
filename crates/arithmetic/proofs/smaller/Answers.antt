-- `arithmetic::smaller` meets its contract: one of the two factors is 1, and the other 0. Assumes nothing.
use mathlib.Core.Path.{◌≡◌, refl}
use mathlib.Core.Bool.{Bool, true, false}
use Prim.Native.Nat.{ℕ, ◌+◌, ◌-◌, ◌*◌, ◌^◌, ◌≤◌, ◌<◌, min}
use native.Mathlib.Omega.{arith}
use lib.Dec.{leb}
use borrow.Author.Tests.{leb-true, leb-false}
use mir.Val.{bool_byte}
use Rattle.arithmetic.proofs.smaller.Goals.{Start}

record Chosen (a b : ℕ) (first : Bool) : Type 0 where
  bit : bool_byte first ≤ 1
  a_fits : a * bool_byte first < 2 ^ 64
  b_fits : b * (1 - bool_byte first) < 2 ^ 64
  fits : a * bool_byte first + b * (1 - bool_byte first) < 2 ^ 64
  value : a * bool_byte first + b * (1 - bool_byte first) ≡ min a b

chosen : (a b : ℕ) → a < 2 ^ 64 → b < 2 ^ 64 → Chosen a b (leb a b)
chosen a b ha hb = by (leb a b) refl
  where
    by : (t : Bool) → leb a b ≡ t → Chosen a b t
    by true e = let h = leb-true a b e in record { bit = omega arith; a_fits = omega arith; b_fits = omega arith; fits = omega arith; value = omega arith }
    by false e = let h = leb-false a b e in record { bit = omega arith; a_fits = omega arith; b_fits = omega arith; fits = omega arith; value = omega arith }

both : (c : Start) → Chosen c.args.a c.args.b (leb c.args.a c.args.b)
both c = chosen c.args.a c.args.b c.ranges.a.fits c.ranges.b.fits
