-- `largest::largest_sum` meets its contract: k times the k-th largest, and by how much the others are over it. Assumes nothing.
use mathlib.Core.Path.{◌≡◌, sym}
use mathlib.Core.List.{List}
use Prim.Native.Nat.{ℕ, ◌≤◌}
use native.Mathlib.Nat.{mul-le-mul}
use native.Mathlib.Omega.{arith}
use lib.IntN.{ℤ, pos, nat_abs, ◌+ℤ◌, ◌*ℤ◌}
use mir.Syntax.{w32}
use mir.Val.{SFits, to_z, of_z}
use mir.ValLaws.{to_z_pos}
use Rattle.signed.proofs.Signs.{abs_mul, read_back, fits_of_abs}
use Rattle.largest.specs.Largest.{largest_sum}
use Rattle.largest.specs.Threshold.{value_at, value_bound, threshold_bound, InRange, sum_over, excess, IsKth}
use Rattle.largest.proofs.Falling.{largest_sum_small}
use Rattle.largest.proofs.Threshold.{largest_by_kth}
use Rattle.largest.proofs.largest_sum.Goals as goal

-- ** What is found, over plain variables

-- t is read from its bits as it is
t_read : {t : ℤ} → nat_abs t ≤ threshold_bound → to_z w32 (of_z w32 t) ≡ t
t_read h = read_back (fits_of_abs {w = w32} (omega arith))

-- and so is k
k_read : {k : ℕ} → k ≤ 64 → to_z w32 k ≡ pos k
k_read {k} h = to_z_pos w32 k (omega arith)

-- k times t, as the code has it, fits
product_fits : (k : ℕ) (t : ℤ) → k ≤ 64 → nat_abs t ≤ threshold_bound → SFits w32 (to_z w32 k *ℤ to_z w32 (of_z w32 t))
product_fits k t few small = rw (k_read few, t_read small) (fits_of_abs (omega (arith, abs_mul (pos k) t, mul-le-mul few small)))

module _ (values : List ℤ) (n k : ℕ) (few : k ≤ 64) where
  -- the sum that is wanted fits
  sum_fits : InRange values n → SFits w32 (largest_sum (value_at values) n k)
  sum_fits range =
      let small = largest_sum_small value_bound (value_at values) n k (λ j h. omega (arith, range.small j)) in
      fits_of_abs (omega (arith, small))

  -- and is what the code works out
  sum_made : (t : ℤ) {over : ℤ} → IsKth (value_at values) n k t → nat_abs t ≤ threshold_bound → SFits w32 over
      → over ≡ pos (sum_over (excess (to_z w32 (of_z w32 t))) (value_at values) n)
      → to_z w32 (of_z w32 (to_z w32 k *ℤ to_z w32 (of_z w32 t))) +ℤ to_z w32 (of_z w32 over) ≡ largest_sum (value_at values) n k
  sum_made t kth small fits is =
      rw (read_back (product_fits k t few small), read_back fits, is, k_read few, t_read small)
      (sym (largest_by_kth (value_at values) n k t kth))

-- ** What the code asks for

pub overflow_add-result : goal.overflow_add-result
overflow_add-result c =
    let kth = c.kth_largest-t.ensures in
    rw (sum_made _ _ _ c.requires.3 c.kth_largest-t.result kth.0 kth.1 (record { sfits = c.excess_over-over.type_inv }) c.excess_over-over.ensures)
    (sum_fits _ _ _ c.requires.3 c.requires.0)

pub returns : goal.returns
returns c =
    let kth = c.kth_largest-t.ensures in
    let sum = sum_made _ _ _ c.requires.3 c.kth_largest-t.result kth.0 kth.1 (record { sfits = c.excess_over-over.type_inv }) c.excess_over-over.ensures in
    rw sum (read_back (sum_fits _ _ _ c.requires.3 c.requires.0))
