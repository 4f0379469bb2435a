-- Thresholds: their words, their order, and the number of them at or below a draw. Assumes nothing.
use mathlib.Core.Path.{◌≡◌, refl, sym, ap, ◌∙◌}
use mathlib.Core.Bool.{Bool, true, false}
use mathlib.Core.List.{List, ◌++◌}
use Prim.Native.Nat.{ℕ, ◌+◌, ◌^◌, ◌<◌}
use native.Mathlib.Numerals.{add-one}
use native.Mathlib.Omega.{arith}
use lib.Dec.{leb, ltb}
use lib.ListN.{length, get_or, get_or-append}
use lib.Seq.{get_or-append-add}
use borrow.Author.Tests.{ltb-true, ltb-false, le-leb, lt-leb}
use Rattle.arithmetic.specs.Words.{bit}
use Rattle.arithmetic.proofs.Bits.{bit_injective}
use Rattle.checks.proofs.AllBelow.{all_at}
use Rattle.base_sample.specs.BaseSample.{words_small, at_or_below}

-- ** Words and their order

-- the words of ten high words and then ten low words
pub high_word : (high low : List ℕ) (i : ℕ) → length high ≡ 10 → i < 10 → get_or (high ++ low) i 0 ≡ get_or high i 0
high_word high low i ten h = get_or-append high low 0 i (omega (arith, ten))

pub low_word : (high low : List ℕ) (i : ℕ) → length high ≡ 10 → get_or (high ++ low) (10 + i) 0 ≡ get_or low i 0
low_word high low i ten = ap (λ (n : ℕ). get_or (high ++ low) (n + i) 0) (sym ten) ∙ get_or-append-add high low i 0

pub word_small : (cdt : List ℕ) (i : ℕ) → i < 20 → words_small cdt ≡ true → get_or cdt i 0 < 2 ^ 62
unfolding words_small
word_small cdt i h e = ltb-true (get_or cdt i 0) (2 ^ 62) (all_at (λ (j : ℕ). ltb (get_or cdt j 0) (2 ^ 62)) i 20 h e)

-- a threshold that a draw is not below is at or below it
pub not_below : (m n : ℕ) → (bit (ltb n m) ≡ 1 → ⊥) → leb m n ≡ true
not_below m n h = by (ltb n m) refl
  where
    by : (t : Bool) → ltb n m ≡ t → leb m n ≡ true
    by true e = absurd (h (rw e))
    by false e = le-leb m n (ltb-false n m e)

pub is_below : (m n : ℕ) → bit (ltb n m) ≡ 1 → leb m n ≡ false
is_below m n h = lt-leb m n (ltb-true n m (bit_injective (ltb n m) true h))

-- a draw is below a threshold, or the threshold is at or below it
pub one_of_both : (m n : ℕ) → bit (ltb n m) + bit (leb m n) ≡ 1
one_of_both m n = by (ltb n m) refl
  where
    by : (t : Bool) → ltb n m ≡ t → bit t + bit (leb m n) ≡ 1
    by true e = rw (lt-leb m n (ltb-true n m e))
    by false e = rw (le-leb m n (ltb-false n m e))

-- ** The number at or below a draw

pub at_or_below_next : (thresholds : ℕ → ℕ) (d i : ℕ) → at_or_below thresholds d (i + 1) ≡ at_or_below thresholds d i + bit (leb (thresholds i) d)
unfolding at_or_below
at_or_below_next thresholds d i = rw (add-one i)
