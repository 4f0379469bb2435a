-- How far six squarings carry a value that is near a fraction from the fraction's 64th power. Assumes nothing.
use mathlib.Core.Path.{◌≡◌, ◌∙◌}
use Prim.Native.Nat.{ℕ, zero, suc, ◌+◌, ◌*◌, ◌^◌}
use native.Mathlib.Nat.{le_trans, mul-le-mul, pow-zero, pow-suc}
use native.Mathlib.Omega.{arith}
use lib.Pow.{pow_pos, pow-add}
use Rattle.exponential.specs.Exponential.{squared, squarings}
use Rattle.exponential.proofs.Table.{squared_nearest, squared_small}
use Rattle.error_bound.proofs.ErrorStep.{square}
use Rattle.error_bound.proofs.Near.{Near}

near_square : (E a S D : ℕ) → Near E a S D → Near (2 * E + 1) (squared a) (S * S) (D * D)
near_square E a S D c =
    let nearest = squared_nearest a in
    let both = square (2 ^ 62) D S a (squared a) E (pow_pos 62) c.whole c.proper
    (omega (arith, nearest.above)) (omega (arith, nearest.below)) c.above c.below in
    record {
      whole = le_trans (squared_small a c.whole) c.whole;
      proper = mul-le-mul c.proper c.proper;
      above = both.0;
      below = both.1;
    }

-- the power and the error after i squarings
unfoldable pub doubled : (i k : ℕ) → ℕ
doubled zero k = k
doubled (suc i) k = doubled i (k + k)

unfoldable pub errors : (i E : ℕ) → ℕ
errors zero E = E
errors (suc i) E = errors i (2 * E + 1)

pub near_squarings : (i k E a S D : ℕ) → Near E a (S ^ k) (D ^ k) → Near (errors i E) (squarings i a) (S ^ doubled i k) (D ^ doubled i k)
unfolding doubled errors squarings
near_squarings zero k E a S D c = c
near_squarings (suc i) k E a S D c =
    near_squarings i (k + k) (2 * E + 1) (squared a) S D (rw (pow-add S k k, pow-add D k k) (near_square E a (S ^ k) (D ^ k) c))

pub pow_one : (x : ℕ) → x ^ 1 ≡ x
pow_one x = pow-suc x 0 ∙ rw pow-zero (omega arith)
