-- By how much a value is over a threshold, as the loop of `excess_over` adds it up. Assumes nothing.
use mathlib.Core.Path.{◌≡◌, refl}
use mathlib.Core.Bool.{Bool, true, false, cond}
use Prim.Native.Nat.{ℕ, ◌+◌, ◌*◌, ◌^◌, ◌≤◌, ◌<◌}
use native.Mathlib.Omega.{arith}
use lib.IntN.{ℤ, pos, negsuc, nat_abs, ◌+ℤ◌, ◌-ℤ◌}
use lib.Signed.{le_z}
use borrow.Author.Tests.{le-leb}
use Rattle.std.proofs.lemmas.Int.{ints}
use Rattle.largest.specs.Threshold.{value_bound, threshold_bound, sum_over, reaches, positive_part, excess}
use Rattle.largest.proofs.Threshold.{sum_more, sum_rises, sum_scaled, not_over}

abs_minus : (a b : ℤ) → nat_abs (a -ℤ b) ≤ nat_abs a + nat_abs b
abs_minus a b = omega (arith, ints)

-- what is kept of a difference is its positive part
positive : (z : ℤ) → cond (le_z (pos 0) z) z (pos 0) ≡ pos (positive_part z)
positive (pos m) = rw (le-leb 0 m (omega arith))
positive (negsuc m) = refl

positive_most : (z : ℤ) → positive_part z ≤ nat_abs z
positive_most (pos m) = omega arith
positive_most (negsuc m) = omega arith

-- the most that a value is over a threshold
abbrev excess_bound : ℕ
excess_bound = value_bound + threshold_bound

-- only a number that reaches t + 1 is over t
excess_most : (t x : ℤ) → nat_abs (x -ℤ t) ≤ excess_bound → excess t x ≤ excess_bound * reaches (t +ℤ pos 1) x
excess_most t x h = by (le_z (t +ℤ pos 1) x) refl
  where
    by : (r : Bool) → le_z (t +ℤ pos 1) x ≡ r → excess t x ≤ excess_bound * cond r 1 0
    by true e = omega (arith, positive_most (x -ℤ t))
    by false e = omega (arith, not_over t x e)

module _ (t : ℤ) (f : ℕ → ℤ) (n : ℕ) (t_small : nat_abs t ≤ threshold_bound) (small : (j : ℕ) → nat_abs (f j) < value_bound)
    (few : sum_over (reaches (t +ℤ pos 1)) f n < 64) where
  pub over_small : (j : ℕ) → nat_abs (f j -ℤ t) ≤ excess_bound
  over_small j = omega (arith, small j, abs_minus (f j) t)

  pub excess_small : (j : ℕ) → j ≤ n → sum_over (excess t) f j < 2 ^ 31
  excess_small j h =
      let scaled = sum_scaled (excess t) f (reaches (t +ℤ pos 1)) excess_bound (λ i. excess_most t (f i) (over_small i)) j in
      omega (arith, scaled, sum_rises (reaches (t +ℤ pos 1)) f j n h)

  -- one turn more
  pub excess_more : (j : ℕ) (sum kept : ℤ) → sum ≡ pos (sum_over (excess t) f j)
      → kept ≡ cond (le_z (pos 0) (f j -ℤ t)) (f j -ℤ t) (pos 0)
      → sum +ℤ kept ≡ pos (sum_over (excess t) f (j + 1))
  excess_more j sum kept s k =
      omega (arith, ints, positive (f j -ℤ t), sum_more (excess t) f j)
