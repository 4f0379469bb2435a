-- The base sample is x exactly when d is at or above just x thresholds, and never falls as d rises. Assumes nothing.
use mathlib.Core.Path.{◌≡◌, refl, subst}
use mathlib.Core.Bool.{Bool, true, false}
use mathlib.Core.List.{List}
use mathlib.Core.Logic.{⊎_elim}
use Prim.Native.Nat.{ℕ, zero, suc, ◌+◌, ◌≤◌, ◌<◌}
use native.Mathlib.Nat.{le_trans, le_refl, lt_of_lt_of_le, lt_of_not-le, lt_irrefl, le_antisymm, eq-or-lt_of_le, add-le-add}
use native.Mathlib.Nat.{not-suc-le-zero, le_of_suc-le-suc}
use native.Mathlib.Omega.{arith}
use lib.Arith.{le-zero}
use lib.Dec.{leb}
use borrow.Author.Tests.{leb-true, leb-false, le-leb}
use Rattle.arithmetic.specs.Words.{bit}
use Rattle.checks.proofs.AllBelow.{all_at}
use Rattle.base_sample.specs.BaseSample.{threshold, never_falls, at_or_below, base_sample, AtJust, BaseSampleExactly, BaseSampleRises}
use Rattle.base_sample.specs.BaseSample.{ThresholdByItsWords, Rising}
use Rattle.base_sample.proofs.Thresholds.{high_word, low_word}

-- ** Thresholds that never fall

pub threshold_by_its_words : ThresholdByItsWords
threshold_by_its_words high low i ten h = rw (high_word high low i ten h, low_word high low i ten)

pub rising : (cdt : List ℕ) → never_falls (threshold cdt) ≡ true → Rising cdt
unfolding never_falls
rising cdt e i h = leb-true (threshold cdt i) (threshold cdt (suc i)) (all_at (λ (j : ℕ). leb (threshold cdt j) (threshold cdt (suc j))) i 9 h e)

in_order : (cdt : List ℕ) → Rising cdt → (i j : ℕ) → i ≤ j → j < 10 → threshold cdt i ≤ threshold cdt j
in_order cdt e i zero h g = rw (le-zero h) (le_refl (threshold cdt 0))
in_order cdt e i (suc j) h g =
    ⊎_elim
    (λ same. rw same (le_refl (threshold cdt (suc j))))
    (λ below. le_trans (in_order cdt e i j (le_of_suc-le-suc below) (omega arith)) (e j (le_of_suc-le-suc g)))
    (eq-or-lt_of_le h)

-- ** The count, threshold by threshold

module _ (cdt : List ℕ) (d : ℕ) where
  none : AtJust cdt d 0 0
  none = record { at_most = omega arith; at_or_above = λ i h. absurd (not-suc-le-zero h); below = λ i h g. absurd (not-suc-le-zero g) }

  one_more : Rising cdt → (count x : ℕ) → count < 10 → AtJust cdt d count x
      → AtJust cdt d (suc count) (x + bit (leb (threshold cdt count) d))
  one_more e count x h r = by (leb (threshold cdt count) d) refl
    where
      -- where d is at or above this threshold, it is below none before
      reaches : threshold cdt count ≤ d → count ≤ x
      reaches g = le_of_suc-le-suc (lt_of_not-le (λ k. lt_irrefl d (lt_of_lt_of_le (r.below x (le_refl x) k) (le_trans (in_order cdt e x count r.at_most h) g))))

      last : d < threshold cdt count → (i : ℕ) → x ≤ i → i < suc count → d < threshold cdt i
      last here i g k = ⊎_elim (λ same. rw same here) (λ before. r.below i g before) (eq-or-lt_of_le (le_of_suc-le-suc k))

      by : (t : Bool) → leb (threshold cdt count) d ≡ t → AtJust cdt d (suc count) (x + bit t)
      by true f =
          let here = leb-true (threshold cdt count) d f in
          let all : x ≡ count = le_antisymm r.at_most (reaches here) in
          record {
            at_most = omega (arith, r.at_most);
            at_or_above = λ i g. le_trans (in_order cdt e i count (omega (arith, g, r.at_most)) h) here;
            below = λ i g k. absurd (omega (arith, all, g, k));
          }
      by false f =
          let here = leb-false (threshold cdt count) d f in
          record {
            at_most = omega (arith, r.at_most);
            at_or_above = λ i g. r.at_or_above i (omega (arith, g));
            below = λ i g k. last here i (omega (arith, g)) k;
          }

  counted : Rising cdt → (count : ℕ) → count ≤ 10 → AtJust cdt d count (at_or_below (threshold cdt) d count)
  unfolding at_or_below
  counted e zero h = none
  counted e (suc count) h = one_more e count (at_or_below (threshold cdt) d count) h (counted e count (omega arith))

  -- no two numbers fit
  just_one : (x x' : ℕ) → AtJust cdt d 10 x → AtJust cdt d 10 x' → x ≤ x'
  just_one x x' r r' =
      le_of_suc-le-suc (lt_of_not-le (λ h. lt_irrefl d (lt_of_lt_of_le (r'.below x' (le_refl x') (le_trans h r.at_most)) (r.at_or_above x' h))))

pub base_sample_exactly : BaseSampleExactly
unfolding base_sample
base_sample_exactly cdt d x e =
    let r = counted cdt d e 10 (le_refl 10) in
    ((λ h. subst (AtJust cdt d 10) h r), (λ s. le_antisymm (just_one cdt d _ x r s) (just_one cdt d x _ s r)))

-- ** As d rises

bit_rises : (a d d' : ℕ) → d ≤ d' → bit (leb a d) ≤ bit (leb a d')
bit_rises a d d' h = by (leb a d) refl
  where
    by : (t : Bool) → leb a d ≡ t → bit t ≤ bit (leb a d')
    by true e = rw (le-leb a d' (le_trans (leb-true a d e) h)) (le_refl 1)
    by false e = omega arith

count_rises : (thresholds : ℕ → ℕ) (d d' count : ℕ) → d ≤ d' → at_or_below thresholds d count ≤ at_or_below thresholds d' count
unfolding at_or_below
count_rises thresholds d d' zero h = le_refl 0
count_rises thresholds d d' (suc count) h = add-le-add (count_rises thresholds d d' count h) (bit_rises (thresholds count) d d' h)

pub base_sample_rises : BaseSampleRises
unfolding base_sample
base_sample_rises cdt d d' h = count_rises (threshold cdt) d d' 10 h
