-- How far v is from 2 ^ 62 * N / q, for which it stands. Assumes nothing.
use Prim.Native.Nat.{ℕ, ◌+◌, ◌*◌, ◌/◌, ◌^◌, ◌≤◌, ◌<◌}
use native.Mathlib.Nat.{le_of_suc-le, mul-le-mul_left, mul-le-mul_right, le_of_mul-le-mul_right, div-mul-le_self, lt-div-mul-add}
use native.Mathlib.Omega.{arith}
use lib.Pow.{pow_pos}
use Rattle.exponential.specs.Exponential.{reciprocal, scaled}
use Rattle.error_bound.specs.ErrorBound.{InRange}

-- with W and H for 2 ^ 62 and 2 ^ 22
module _ (W H q n r v : ℕ) (pos_h : 0 < H) (r_le : r * q ≤ W * H) (r_ge : W * H ≤ r * q + q) (v_le : v * H ≤ n * r)
    (v_ge : n * r ≤ v * H + H) (n_le : 3 * n ≤ 4 * H) where
  v_low : v * q ≤ n * W
  v_low = le_of_mul-le-mul_right {k = H} (omega (arith, mul-le-mul_right q v_le, mul-le-mul_left n r_le)) pos_h

  v_high : 3 * (n * W) ≤ 3 * (v * q) + 7 * q
  v_high = le_of_mul-le-mul_right {k = H} (omega (arith, mul-le-mul_right q v_ge, mul-le-mul_left n r_ge, mul-le-mul_right q n_le)) pos_h

-- how far v is below 2 ^ 62 * N / q
pub record Scaled (q n v : ℕ) : Type 0 where
  pub low : v * q ≤ n * 2 ^ 62
  pub high : 3 * (n * 2 ^ 62) ≤ 3 * (v * q) + 7 * q

pub scaled_near : (q n : ℕ) → InRange q n → Scaled q n (scaled (reciprocal q) n)
unfolding scaled reciprocal
scaled_near q n h =
    let r = 2 ^ 84 / q in
    let v = n * r / 2 ^ 22 in
    let r_le = div-mul-le_self (2 ^ 84) q in
    let r_ge = le_of_suc-le (lt-div-mul-add {a = 2 ^ 84} {b = q} h.positive) in
    let v_le = div-mul-le_self (n * r) (2 ^ 22) in
    let v_ge = le_of_suc-le (lt-div-mul-add {a = n * r} {b = 2 ^ 22} (pow_pos 22)) in
    record {
      low = v_low (2 ^ 62) (2 ^ 22) q n r v (pow_pos 22) r_le r_ge v_le v_ge h.size;
      high = v_high (2 ^ 62) (2 ^ 22) q n r v (pow_pos 22) r_le r_ge v_le v_ge h.size;
    }

pub scaled_le : (q n : ℕ) → InRange q n → scaled (reciprocal q) n ≤ 2 ^ 62
scaled_le q n h =
    le_of_mul-le-mul_right {k = q} (omega (arith, (scaled_near q n h).low, mul-le-mul_right (2 ^ 62) h.ratio)) h.positive
