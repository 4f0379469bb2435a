-- Thresholds that are the same one by one are in the same order and give the same base sample; so do tables that agree at their 20 places.
-- Assumes nothing.
use mathlib.Core.Path.{◌≡◌, refl, ap₂}
use mathlib.Core.List.{List}
use Prim.Native.Nat.{ℕ, zero, suc, ◌+◌, ◌<◌}
use native.Mathlib.Nat.{le_refl}
use native.Mathlib.Omega.{arith}
use lib.Dec.{leb}
use lib.ListN.{get_or}
use Rattle.checks.proofs.AllBelow.{all_same}
use Rattle.base_sample.specs.BaseSample.{threshold, never_falls, at_or_below, base_sample}

-- ** The same thresholds

pub same_order : (f g : ℕ → ℕ) → ((i : ℕ) → i < 10 → f i ≡ g i) → never_falls f ≡ never_falls g
unfolding never_falls
same_order f g same = all_same _ _ _ (λ i h. ap₂ leb (same i (omega arith)) (same (suc i) (omega arith)))

pub same_count : (f g : ℕ → ℕ) (d count : ℕ) → ((i : ℕ) → i < count → f i ≡ g i) → at_or_below f d count ≡ at_or_below g d count
unfolding at_or_below
same_count f g d zero same = refl
same_count f g d (suc count) same = rw (same_count f g d count (λ i h. same i (omega arith)), same count (le_refl (suc count)))

-- ** The same words

pub same_base_sample : (cdt cdt' : List ℕ) (d : ℕ) → ((i : ℕ) → i < 20 → get_or cdt i 0 ≡ get_or cdt' i 0)
    → base_sample cdt d ≡ base_sample cdt' d
unfolding base_sample
same_base_sample cdt cdt' d same =
    same_count (threshold cdt) (threshold cdt') d 10 (λ i h. rw (same i (omega arith), same (10 + i) (omega arith)))
