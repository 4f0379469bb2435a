-- The coefficients of the exact fraction's numerator, and its denominator. Assumes nothing.
use mathlib.Core.Path.{◌≡◌, refl, sym, ap, ◌∙◌}
use Prim.Native.Nat.{ℕ, zero, suc, ◌+◌, ◌-◌, ◌*◌, ◌^◌, ◌≤◌, ◌<◌}
use native.Mathlib.Nat.{add-zero, mul-le-mul_left, le_of_mul-le-mul_right, mul_assoc, mul_comm, pow-zero, pow-suc, sub-add_cancel}
use native.Mathlib.Omega.{arith}
use lib.Pow.{pow-add}
use Rattle.exponential.specs.Exponential.{factorial}
use Rattle.error_bound.specs.Exact.{product_above, coefficient, denominator, CommonDenominator}
use Rattle.exponential.proofs.Table.{factorial_pos, factorial_suc, factorial_le}

-- (j + 1) * .. * (j + count) is (j + count)! / j!
product_above_lem : (j count : ℕ) → product_above j count * factorial j ≡ factorial (j + count)
unfolding product_above
product_above_lem j zero = rw add-zero (omega arith)
product_above_lem j (suc count) =
    let e : j + suc count ≡ suc (j + count) = omega arith in
    rw (e, factorial_suc (j + count))
    (mul_assoc (suc (j + count)) (product_above j count) (factorial j) ∙ ap (λ (x : ℕ). suc (j + count) * x) (product_above_lem j count))

-- the product of j + 1 to 20 is 20! / j!
factorial_ratio : (j : ℕ) → j ≤ 20 → product_above j (20 - j) * factorial j ≡ factorial 20
factorial_ratio j h =
    let e : j + (20 - j) ≡ 20 = omega arith in
    product_above_lem j (20 - j) ∙ ap factorial e

-- the denominator under which the value before entry j is taken is q ^ (20 - j) * 20!
unfoldable pub scale : (q j : ℕ) → ℕ
scale q j = q ^ (20 - j) * factorial 20

pub scale_suc : (q j : ℕ) → j < 20 → scale q j ≡ q * scale q (suc j)
unfolding scale
scale_suc q j h =
    let e : 20 - j ≡ suc (20 - suc j) = omega arith in
    rw (e, pow-suc) (rw (mul_comm (q ^ (20 - suc j)) q) (mul_assoc q (q ^ (20 - suc j)) (factorial 20)))

pub coefficient_factorial : (q j : ℕ) → j ≤ 20 → coefficient q j * factorial j ≡ scale q j
unfolding coefficient scale
coefficient_factorial q j h =
    mul_assoc (q ^ (20 - j)) (product_above j (20 - j)) (factorial j) ∙ ap (λ (x : ℕ). q ^ (20 - j) * x) (factorial_ratio j h)

pub common_denominator : CommonDenominator
unfolding denominator scale
common_denominator q j h =
    let powers : q ^ (20 - j) * q ^ j ≡ q ^ 20 = sym (pow-add q (20 - j) j) ∙ ap (λ (k : ℕ). q ^ k) (sub-add_cancel h) in
    omega (arith, ap (λ (x : ℕ). x * q ^ j) (coefficient_factorial q j h), ap (λ (x : ℕ). x * factorial 20) powers)

-- coefficients grow at least by q downwards
pub coefficient_le : (q j : ℕ) → j < 20 → q * coefficient q (suc j) ≤ coefficient q j
coefficient_le q j h =
    let next = ap (λ (x : ℕ). q * x) (coefficient_factorial q (suc j) h) in
    let here = coefficient_factorial q j (omega arith) in
    le_of_mul-le-mul_right {k = factorial (suc j)}
    (omega (arith, next, here, scale_suc q j h, mul-le-mul_left (coefficient q j) (factorial_le j)))
    (factorial_pos (suc j))

pub scale_top : (q : ℕ) → scale q 20 ≡ 2432902008176640000
unfolding scale factorial
scale_top q = rw pow-zero refl

pub coefficient_top : (q : ℕ) → coefficient q 20 ≡ 1
unfolding coefficient product_above
coefficient_top q = rw pow-zero refl

pub scale_zero : (q : ℕ) → scale q 0 ≡ denominator q
unfolding scale denominator
scale_zero q = refl

pub coefficient_zero : (q : ℕ) → coefficient q 0 ≡ denominator q
unfolding coefficient denominator product_above factorial
coefficient_zero q = refl
