-- The bound on the error of the exponential. Assumes nothing.
use Prim.Native.Nat.{ℕ, ◌-◌, ◌^◌, ◌≤◌}
use native.Mathlib.Nat.{le_trans, mul-le-mul_right, pow-le-pow_left}
use native.Mathlib.Omega.{arith}
use lib.ListN.{get_or}
use lib.Dec.{lit≤}
use Rattle.exponential.specs.Exponential.{polynomial, reciprocal, scaled, evaluate, exp_scaled, exp_with, exp, divisor, divisor_at}
use Rattle.error_bound.specs.Exact.{denominator, Within}
use Rattle.error_bound.specs.ErrorBound as statements
use Rattle.error_bound.proofs.Exact.{added, taken, within}
use Rattle.error_bound.specs.ErrorBound.{InRange}
use Rattle.error_bound.proofs.Near.{Near}
use Rattle.error_bound.proofs.Evaluation.{parts_ordered, polynomial_near}
use Rattle.error_bound.proofs.Squarings.{doubled, errors, near_squarings, pow_one}

-- the six squarings of the evaluation
squarings_near : (q n : ℕ) → InRange q n → Near 959 (exp_with polynomial q n) ((added q n - taken q n) ^ 64) (denominator q ^ 64)
unfolding exp_with exp_scaled doubled errors
squarings_near q n h =
    let a = evaluate polynomial (scaled (reciprocal q) n) 20 (get_or polynomial 20 0) in
    let s = added q n - taken q n in
    near_squarings 6 1 14 a s (denominator q) (rw (pow_one s, pow_one (denominator q)) (polynomial_near q n h))

pub error_bound_in_range : statements.ErrorBoundInRange
error_bound_in_range q n h =
    let c = squarings_near q n h in
    within 959 (exp_with polynomial q n) q n (parts_ordered q n h) c.above c.below

pub at_most_one : statements.AtMostOne
at_most_one q n h = (squarings_near q n h).whole

weaken : {k l : ℕ} (x q n : ℕ) → k ≤ l → Within k x q n → Within l x q n
unfolding Within
weaken x q n h w = le_trans w (mul-le-mul_right (denominator q ^ 64) h)

pub error_bound : statements.ErrorBound
unfolding exp
error_bound n h =
    weaken (exp n) divisor n (lit≤ tt)
    (error_bound_in_range divisor n (record { positive = lit≤ tt; ratio = omega arith; size = omega arith }))

pub error_bound_at_deviations : statements.ErrorBoundAtDeviations
error_bound_at_deviations deviation n low high h =
    let q = divisor_at deviation in
    let d : 107 ^ 2 ≤ deviation ^ 2 = pow-le-pow_left low 2 in
    weaken (exp_with polynomial q n) q n (lit≤ tt)
    (error_bound_in_range q n (record { positive = omega arith; ratio = omega arith; size = omega arith }))
