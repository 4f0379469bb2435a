-- How far the evaluation of the polynomial, step by step, is from the exact sum: 14 units at the end. Assumes nothing.
use mathlib.Core.Path.{◌≡◌, refl, sym, ap, ap₂, ◌∙◌}
use Prim.Native.Nat.{ℕ, zero, suc, ◌+◌, ◌-◌, ◌*◌, ◌/◌, ◌%◌, ◌^◌, ◌≤◌, ◌<◌, min}
use native.Mathlib.Nat.{le_trans, le_of_suc-le, mul-le-mul_left, mul-le-mul_right, pow-zero, pow-suc, div-add-mod', mod-lt}
use native.Mathlib.Nat.{lt-div-mul-add, sub-add_cancel, sub-le, mul-div-le}
use native.Mathlib.Numerals.{add-one}
use native.Mathlib.Omega.{arith}
use lib.Pow.{pow_pos}
use lib.ListN.{get_or}
use lib.Dec.{lit≤}
use Rattle.exponential.specs.Exponential.{factorial, polynomial_entry, polynomial, reciprocal, scaled, evaluate}
use Rattle.error_bound.specs.Exact.{coefficient, denominator}
use Rattle.error_bound.proofs.Exact.{sum, size, added, taken}
use Rattle.exponential.proofs.Table.{factorial_pos, entry_low, product_small, small_entry, table_at}
use Rattle.error_bound.proofs.ErrorStep.{step}
use Rattle.error_bound.specs.ErrorBound.{InRange}
use Rattle.error_bound.proofs.Near.{Near}
use Rattle.error_bound.proofs.Coefficients.{scale, scale_suc, scale_top, scale_zero, coefficient_factorial, coefficient_le}
use Rattle.error_bound.proofs.Coefficients.{coefficient_top, coefficient_zero}
use Rattle.error_bound.proofs.Scaled.{scaled_near, scaled_le}

-- a quotient is cut by less than one
quotient_high : (x : ℕ) → x ≤ 2 ^ 62 * (x / 2 ^ 62) + 2 ^ 62
quotient_high x = omega (arith, lt-div-mul-add {a = x} {b = 2 ^ 62} (pow_pos 62))

-- 7 / 3 units over (j + 1)!, in 240ths, rounded up; and 1 if 2 ^ 62 / j! is not whole
unfoldable weight : ℕ → ℕ
weight j = 560 / factorial (suc j) + 1

unfoldable rest : ℕ → ℕ
rest j = min 1 (2 ^ 62 % factorial j)

weight_ge : (j : ℕ) → 560 ≤ weight j * factorial (suc j)
unfolding weight
weight_ge j = omega (arith, lt-div-mul-add {a = 560} {b = factorial (suc j)} (factorial_pos (suc j)))

cut : (r f : ℕ) → r < f → r ≤ min 1 r * f
cut zero f h = omega arith
cut (suc r) f h = let e : min 1 (suc r) ≡ 1 = omega arith in rw e (omega arith)

entry_high : (j : ℕ) → 2 ^ 62 ≤ polynomial_entry j * factorial j + rest j * factorial j
unfolding rest
entry_high j =
    omega (arith, div-add-mod' (2 ^ 62) (factorial j), cut (2 ^ 62 % factorial j) (factorial j) (mod-lt (2 ^ 62) (factorial_pos j)))

-- The error of the value a before entry j, in 240ths of a unit: at most u above and at most l below the exact (p - m) / scale.
record Close (q n j a p m u l : ℕ) : Type 0 where
  small : a * factorial j ≤ 2 ^ 62
  above : 240 * (a * scale q j) + 240 * (2 ^ 62 * m) ≤ 240 * (2 ^ 62 * p) + u * scale q j
  below : 240 * (2 ^ 62 * p) ≤ 240 * (a * scale q j) + 240 * (2 ^ 62 * m) + l * scale q j
  ordered : m ≤ p
  narrow : p ≤ m + coefficient q j

unfoldable next_above : (j l : ℕ) → ℕ
next_above j l = 240 + weight j + (15 * l + 15) / 16

unfoldable next_below : (j u : ℕ) → ℕ
next_below j u = 240 * rest j + (15 * u + 15) / 16

next_above_lem : (j l : ℕ) → 16 * (240 + weight j) + 15 * l ≤ 16 * next_above j l
unfolding next_above
next_above_lem j l = omega arith

next_below_lem : (j u : ℕ) → 16 * (240 * rest j) + 15 * u ≤ 16 * next_below j u
unfolding next_below
next_below_lem j u = omega arith

close_step : (q n j a p m u l : ℕ) → InRange q n → j < 20 → Close q n (suc j) a p m u l
    → Close q n j (polynomial_entry j - a * scaled (reciprocal q) n / 2 ^ 62)
    (coefficient q j + n * m) (n * p) (next_above j l) (next_below j u)
close_step q n j a p m u l h hj c =
    let v = scaled (reciprocal q) n in
    let s = a * v / 2 ^ 62 in
    let t = polynomial_entry j in
    let s_le : s ≤ t = le_trans (product_small a v (scaled_le q n h)) (small_entry j a c.small) in
    let both = step (2 ^ 62) q n v (scale q (suc j)) a s (t - s) t (factorial j) (factorial (suc j)) (coefficient q j) p m u l
    (weight j) (rest j) (next_above j l) (next_below j u)
    (pow_pos 62) (entry_low j) (entry_high j) (coefficient_factorial q j (le_of_suc-le hj) ∙ scale_suc q j hj)
    (mul-div-le (a * v) (2 ^ 62)) (quotient_high (a * v)) (scaled_near q n h).low (scaled_near q n h).high c.small
    (weight_ge j) h.ratio (sub-add_cancel s_le) (next_above_lem j l) (next_below_lem j u) c.above c.below in
    record {
      small = le_trans (mul-le-mul_right (factorial j) (sub-le (polynomial_entry j) s)) (entry_low j);
      above = rw (scale_suc q j hj) both.0;
      below = rw (scale_suc q j hj) both.1;
      ordered = omega (arith, mul-le-mul_left n c.narrow, mul-le-mul_right (coefficient q (suc j)) h.ratio, coefficient_le q j hj);
      narrow = omega (arith, mul-le-mul_left n c.ordered);
    }

-- what the exact value's two parts, and the two errors, come to at the end
unfoldable last_parts : (q n j p m : ℕ) → ℕ × ℕ
last_parts q n zero p m = (p, m)
last_parts q n (suc j) p m = last_parts q n j (coefficient q j + n * m) (n * p)

unfoldable last_errors : (j u l : ℕ) → ℕ × ℕ
last_errors zero u l = (u, l)
last_errors (suc j) u l = last_errors j (next_above j l) (next_below j u)

close_all : (q n j a p m u l : ℕ) → InRange q n → j ≤ 20 → Close q n j a p m u l
    → let parts = last_parts q n j p m in let errors = last_errors j u l in
    Close q n 0 (evaluate polynomial (scaled (reciprocal q) n) j a) parts.0 parts.1 errors.0 errors.1
unfolding evaluate last_parts last_errors
close_all q n zero a p m u l h hj c = c
close_all q n (suc j) a p m u l h hj c =
    rw (table_at j (le_trans hj (lit≤ tt)))
    (close_all q n j (polynomial_entry j - a * scaled (reciprocal q) n / 2 ^ 62)
    (coefficient q j + n * m) (n * p) (next_above j l) (next_below j u) h (le_of_suc-le hj) (close_step q n j a p m u l h hj c))

close_start : (q n : ℕ) → Close q n 20 1 1 0 0 240
unfolding factorial
close_start q n =
    let e = scale_top q in
    let f = coefficient_top q in
    record { small = lit≤ tt; above = rw e (omega arith); below = rw e (omega arith); ordered = lit≤ tt; narrow = rw f (lit≤ tt) }

last_errors_lem : let errors = last_errors 20 0 240 in (errors.0 ≤ 14 * 240) × (errors.1 ≤ 14 * 240)
unfolding last_errors next_above next_below weight rest factorial
last_errors_lem = (lit≤ tt, lit≤ tt)

-- The two parts at the end are the sums of the even and of the odd terms.
module _ (q n : ℕ) where
  power_two_more : (k : ℕ) → n ^ suc (suc k) ≡ n ^ k * n * n
  power_two_more k = pow-suc n (suc k) ∙ ap (λ (x : ℕ). x * n) (pow-suc n k)

  parts_sum : (i p m : ℕ)
      → last_parts q n (2 * i) p m
      ≡ (sum (λ (i : ℕ). size q n (2 * i)) i + n ^ (2 * i) * p, sum (λ (i : ℕ). size q n (2 * i + 1)) i + n ^ (2 * i) * m)
  unfolding last_parts sum
  parts_sum zero p m = rw pow-zero (ap₂ (λ (x y : ℕ). (x, y)) (omega arith) (omega arith))
  parts_sum (suc i) p m =
      let e : 2 * suc i ≡ suc (suc (2 * i)) = omega arith in
      rw (e, power_two_more (2 * i), add-one, pow-suc n (2 * i))
      (parts_sum i (coefficient q (2 * i) + n * (n * p)) (n * (coefficient q (suc (2 * i)) + n * m))
      ∙ ap₂ (λ (x y : ℕ). (x, y)) (omega arith) (omega arith))

  last_parts_lem : last_parts q n 20 1 0 ≡ (added q n, taken q n)
  unfolding added taken sum
  last_parts_lem =
      let top = ap (λ (x : ℕ). sum (λ (i : ℕ). size q n (2 * i)) 10 + n ^ 20 * x) (sym (coefficient_top q)) in
      parts_sum 10 1 0 ∙ ap₂ (λ (x y : ℕ). (x, y)) top (omega arith)

entry_top : polynomial_entry 20 ≡ 1
unfolding factorial
entry_top = refl

whole_value : (a : ℕ) → a * factorial 0 ≤ 2 ^ 62 → a ≤ 2 ^ 62
unfolding factorial
whole_value a h = omega arith

close_end : (q n : ℕ) → InRange q n
    → Close q n 0 (evaluate polynomial (scaled (reciprocal q) n) 20 (get_or polynomial 20 0))
    (added q n) (taken q n) (last_errors 20 0 240).0 (last_errors 20 0 240).1
close_end q n h =
    rw (table_at 20 (lit≤ tt), ← ap (λ (x : ℕ × ℕ). x.0) (last_parts_lem q n), ← ap (λ (x : ℕ × ℕ). x.1) (last_parts_lem q n))
    (rw entry_top (close_all q n 20 1 1 0 0 240 h (lit≤ tt) (close_start q n)))

pub parts_ordered : (q n : ℕ) → InRange q n → taken q n ≤ added q n
parts_ordered q n h = (close_end q n h).ordered

pub polynomial_near : (q n : ℕ) → InRange q n
    → Near 14 (evaluate polynomial (scaled (reciprocal q) n) 20 (get_or polynomial 20 0)) (added q n - taken q n) (denominator q)
polynomial_near q n h =
    let a = evaluate polynomial (scaled (reciprocal q) n) 20 (get_or polynomial 20 0) in
    let c = close_end q n h in
    let parts : added q n - taken q n + taken q n ≡ added q n = sub-add_cancel c.ordered in
    let units = ap (λ (x : ℕ). 2 ^ 62 * x) parts in
    record {
      whole = whole_value a c.small;
      proper = omega (arith, c.narrow, coefficient_zero q, parts);
      above = rw (← scale_zero q) (omega (arith, c.above, mul-le-mul_right (scale q 0) last_errors_lem.0, units));
      below = rw (← scale_zero q) (omega (arith, c.below, mul-le-mul_right (scale q 0) last_errors_lem.1, units));
    }
