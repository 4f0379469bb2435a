-- The search for the k-th largest: with some bits to go it is in t .. t + 2 ^ bits - 1. Assumes nothing.
use mathlib.Core.Path.{◌≡◌, refl, ap}
use mathlib.Core.Bool.{Bool, true, false, cond}
use Prim.Native.Nat.{ℕ, suc, ◌+◌, ◌-◌, ◌^◌, ◌≤◌, ◌<◌}
use native.Mathlib.Omega.{arith}
use lib.Dec.{leb}
use lib.IntN.{ℤ, pos, negsuc, nat_abs, ◌+ℤ◌, +ℤ_idr}
use lib.Signed.{le_z}
use borrow.Author.Tests.{leb-true, leb-false}
use Rattle.std.proofs.lemmas.Int.{ints}
use Rattle.signed.proofs.Signs.{abs_add}
use Rattle.largest.specs.Threshold.{value_bound, threshold_bound, sum_over, reaches}
use Rattle.largest.proofs.Threshold.{sum_alike}

pub record Bracket (f : ℕ → ℤ) (n k : ℕ) (t : ℤ) (bits : ℕ) : Type 0 where
  pub enough : k ≤ sum_over (reaches t) f n
  pub over : sum_over (reaches (t +ℤ pos (2 ^ bits))) f n < k
  pub small : nat_abs t + 2 ^ bits ≤ threshold_bound

pub halves : (bits : ℕ) → 0 < bits → 2 ^ (bits - 1) + 2 ^ (bits - 1) ≡ 2 ^ bits
halves bits h = let more : bits ≡ suc (bits - 1) = omega arith in omega (arith, ap (λ (m : ℕ). 2 ^ m) more)

-- ** The start: all values are from -2 ^ 23 to 2 ^ 23 - 1

reaches_low : (x : ℤ) → nat_abs x < value_bound → le_z (negsuc 8388607) x ≡ true
reaches_low x h = grind (arith, ints)

not_reaches_high : (x : ℤ) → nat_abs x < value_bound → le_z (pos 8388608) x ≡ false
not_reaches_high x h = grind (arith, ints)

module _ (f : ℕ → ℤ) (n k : ℕ) where
  pub bracket_start : ((j : ℕ) → nat_abs (f j) < value_bound) → 0 < k → k ≤ n → Bracket f n k (negsuc 8388607) 24
  bracket_start small positive most = record {
    enough = omega (arith, sum_alike (reaches (negsuc 8388607)) f 1 (λ j. rw (reaches_low (f j) (small j))) n);
    over = omega (arith, sum_alike (reaches (pos 8388608)) f 0 (λ j. rw (not_reaches_high (f j) (small j))) n);
    small = omega arith;
  }

  -- ** One turn

  pub bracket_turn : (t : ℤ) (bits half : ℕ) → Bracket f n k t bits → 0 < bits → half ≡ 2 ^ (bits - 1)
      → Bracket f n k (t +ℤ cond (leb k (sum_over (reaches (t +ℤ pos half)) f n)) (pos half) (pos 0)) (bits - 1)
  bracket_turn t bits half b h e = by (leb k (sum_over (reaches (t +ℤ pos half)) f n)) refl
    where
      twice : half + half ≡ 2 ^ bits
      twice = omega (arith, halves bits h)

      upper : (t +ℤ pos half) +ℤ pos half ≡ t +ℤ pos (2 ^ bits)
      upper = omega (arith, ints, twice)

      by : (r : Bool) → leb k (sum_over (reaches (t +ℤ pos half)) f n) ≡ r → Bracket f n k (t +ℤ cond r (pos half) (pos 0)) (bits - 1)
      by true f = record {
        enough = leb-true k _ f;
        over = rw (← e, upper) b.over;
        small = let s = b.small in omega (arith, abs_add t (pos half), twice);
      }
      by false f = record {
        enough = rw (+ℤ_idr t) b.enough;
        over = rw (+ℤ_idr t, ← e) (leb-false k _ f);
        small = let s = b.small in rw (+ℤ_idr t) (omega (arith, twice));
      }
