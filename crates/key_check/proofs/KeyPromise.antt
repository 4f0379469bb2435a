-- For a key that passes, A of no challenge of just that length is over 46,225. Assumes nothing.
use mathlib.Core.Path.{◌≡◌, refl, sym, ap, subst, ◌∙◌}
use mathlib.Core.Bool.{true, false}
use mathlib.Core.List.{List, [], ◌∷◌}
use Prim.Native.Nat.{ℕ, zero, suc, ◌≤◌, ◌<◌}
use native.Mathlib.Decide.{dec_le}
use native.Mathlib.Omega.{arith}
use lib.ListN.{length, get_or}
use lib.IntN.{ℤ, pos, +ℤ_idl}
use borrow.Author.Tests.{ne_eqb}
use Rattle.signed.specs.Vectors.{square_sum}
use Rattle.signed.proofs.Integers.{Le, le_same, le_is, le_then, le_sum, le_of_test, le_pos, size_of_le}
use Rattle.checks.specs.Checks.{among}
use Rattle.checks.proofs.Lines.{numbered, test_of, passes}
use Rattle.largest.specs.Largest.{sum_at, are_different}
use Rattle.largest.proofs.Falling.{largest_sum_same, largest_sum_all}
use Rattle.largest.proofs.Places.{places_more}
use Rattle.largest.proofs.LargestSum.{at_most}
use Rattle.challenge.proofs.Positions.{Challenge, challenge_of, position_below, position_rises}
use Rattle.challenge_product.specs.Product.{product}
use Rattle.session.proofs.Calls.{respond_passed}
use Rattle.session.proofs.ByRule.{served_respond_by_rule}
use Rattle.key_check.specs.KeyCheck.{table, row_sum, final_sum, key_tests, key_refusal, key_answer}
use Rattle.key_check.specs.KeyPromise.{NeverNegative, KeyPromise, NeverRejectedForA}
use Rattle.key_check.proofs.Table.{squares_are}

-- ** A is at most the final sum

sum_le : (f g : ℕ → ℤ) (places : List ℕ) → ((i : ℕ) → Le (f i) (g i)) → Le (sum_at f places) (sum_at g places)
unfolding sum_at
sum_le f g [] h = le_same (pos 0)
sum_le f g (p ∷ places) h = le_sum (h p) (sum_le f g places h)

squares_at_most : (key : List ℤ) (n : ℕ) (places : List ℕ) → are_different n places ≡ true
    → Le (pos (square_sum (product key n places))) (final_sum key n (length places))
unfolding row_sum final_sum
squares_at_most key n places d =
    le_then
    (le_is (squares_are key n places))
    (le_then
    (sum_le (λ (i : ℕ). sum_at (table key n i) places) (row_sum key n (length places)) places (λ i. at_most (table key n i) n places d))
    (at_most (row_sum key n (length places)) n places d))

-- ** The final sum is never negative: it is at least A of some places

-- count - 1, .. 0
unfoldable down : ℕ → List ℕ
down zero = []
down (suc count) = count ∷ down count

length_down : (count : ℕ) → length (down count) ≡ count
unfolding down
length_down zero = refl
length_down (suc count) = ap suc (length_down count)

not_among_down : (count q : ℕ) → count ≤ q → among (down count) q ≡ false
unfolding down among
not_among_down zero q h = refl
not_among_down (suc count) q h = rw (ne_eqb q count (λ e. omega (arith, e))) (not_among_down count q (omega arith))

different_down : (n count : ℕ) → count ≤ n → are_different n (down count) ≡ true
unfolding down are_different
different_down n zero h = refl
different_down n (suc count) h =
    places_more n count (down count) (omega arith) (not_among_down count count (omega arith)) (different_down n count (omega arith))

from_zero : (m : ℕ) → Le (pos 0) (pos m)
from_zero m = record { more = m; is = sym (+ℤ_idl (pos m)) }

least_zero : (key : List ℤ) (n count : ℕ) → count ≤ n → Le (pos 0) (final_sum key n count)
least_zero key n count h =
    let places = down count in
    subst (λ (k : ℕ). Le (pos 0) (final_sum key n k)) (length_down count)
    (le_then (from_zero (square_sum (product key n places))) (squares_at_most key n places (different_down n count h)))

-- more than n are not there
at_length_n : (key : List ℤ) (n count : ℕ) → n ≤ count → final_sum key n n ≡ final_sum key n count
unfolding row_sum final_sum
at_length_n key n count h =
    sym (largest_sum_all (row_sum key n count) n count h
    ∙ largest_sum_same (row_sum key n count) (row_sum key n n) n n (λ i g. largest_sum_all (table key n i) n count h))

pub never_negative : NeverNegative
never_negative key n count = size_of_le (final_sum key n count) (by (dec_le count n))
  where
    by : Dec (count ≤ n) → Le (pos 0) (final_sum key n count)
    by (yes h) = least_zero key n count h
    by (no h) = subst (Le (pos 0)) (at_length_n key n count (omega arith)) (least_zero key n n (omega arith))

-- ** The positions of a challenge are different places

abbrev Ascends : List ℕ → Type 0
Ascends challenge = (k : ℕ) → suc k < length challenge → get_or challenge k 0 < get_or challenge (suc k) 0

abbrev Below : ℕ → List ℕ → Type 0
Below n challenge = (k : ℕ) → k < length challenge → get_or challenge k 0 < n

-- what is below the first of ascending positions is none of them
not_among_later : (q c : ℕ) (challenge : List ℕ) → q < c → Ascends (c ∷ challenge) → among (c ∷ challenge) q ≡ false
unfolding among
not_among_later q c [] h a = rw (ne_eqb q c (λ e. omega (arith, e)))
not_among_later q c (d ∷ challenge) h a =
    rw (ne_eqb q c (λ e. omega (arith, e)))
    (not_among_later q d challenge (omega (arith, a 0 (omega arith))) (λ k g. a (suc k) (omega arith)))

not_among_rest : (c : ℕ) (challenge : List ℕ) → Ascends (c ∷ challenge) → among challenge c ≡ false
unfolding among
not_among_rest c [] a = refl
not_among_rest c (d ∷ challenge) a = not_among_later c d challenge (a 0 (omega arith)) (λ k g. a (suc k) (omega arith))

different_of : (n : ℕ) (challenge : List ℕ) → Below n challenge → Ascends challenge → are_different n challenge ≡ true
unfolding are_different
different_of n [] b a = refl
different_of n (c ∷ challenge) b a =
    places_more n c challenge (b 0 (omega arith)) (not_among_rest c challenge a)
    (different_of n challenge (λ k h. b (suc k) (omega arith)) (λ k h. a (suc k) (omega arith)))

challenge_different : (n : ℕ) (challenge : List ℕ) → Challenge n challenge → are_different n challenge ≡ true
challenge_different n challenge c =
    different_of n challenge (λ k h. position_below n challenge k c.below h) (λ k h. position_rises challenge k c.rising h)

-- ** The promise

-- the final sum of a key that passes is within the limit of A
within_limit : (n : ℕ) (key : List ℤ) (count : ℕ) → (key_answer n key count).refusal ≡ 0 → Le (final_sum key n count) (pos 46225)
unfolding key_answer key_refusal test_of numbered
within_limit n key count e = le_of_test (final_sum key n count) (pos 46225) (passes 13 (key_tests n key count) refl e)

a_within : (n : ℕ) (key : List ℤ) (challenge : List ℕ) → (key_answer n key (length challenge)).refusal ≡ 0 → Challenge n challenge
    → square_sum (product key n challenge) ≤ 46225
a_within n key challenge e c =
    le_pos (square_sum (product key n challenge)) 46225
    (le_then (squares_at_most key n challenge (challenge_different n challenge c)) (within_limit n key (length challenge) e))

pub key_promise : KeyPromise
key_promise n key count e challenge c l =
    a_within n key challenge (subst (λ (k : ℕ). (key_answer n key k).refusal ≡ 0) (sym l) e) (challenge_of n challenge c)

pub never_rejected_for_a : NeverRejectedForA
never_rejected_for_a s r passed h z p =
    let by_rule = (served_respond_by_rule s r h).bit z p in
    let a = a_within s.degree r.key r.challenge passed (respond_passed s r h).positions in (
      (λ e. let t = by_rule.0 e in (t.four.others, t.coefficients)),
      (λ q. by_rule.1 (record { four = record { squares = a; others = q.0 }; coefficients = q.1 })),
    )
