-- The refusal of the key check is the first that applies, and its answer carries the sum. Assumes nothing.
use mathlib.Core.Path.{◌≡◌, sym, ap}
use mathlib.Core.List.{List}
use mathlib.Core.Logic.{◌⊎◌}
use Prim.Native.Nat.{ℕ, ◌*◌, ◌<◌}
use lib.IntN.{ℤ, pos, nat_abs}
use lib.ListN.{length}
use lib.Signed.{le_z}
use borrow.Author.Tests.{eq-eqb, ne_eqb}
use Rattle.checks.proofs.RefusalTable.{FailsWhere, refuses, serves, fails_no_degree, fails_unequal, fails_either, fails_above, fails_empty}
use Rattle.refusals.specs.FirstRefusal.{TooMany}
use Rattle.refusals.proofs.FirstRefusal.{fails_outside}
use Rattle.key_check.specs.KeyCheck.{final_sum, is_length, key_refusal, key_answer}
use Rattle.key_check.specs.FirstRefusal.{KeyRefusesFirst, AnswersWithTheSum}
use Rattle.key_check.proofs.KeyPromise.{never_negative}

fails_no_length : (n count : ℕ) → FailsWhere (is_length n count) ((count ≡ 0) ⊎ TooMany n count)
fails_no_length n count = fails_either (fails_empty count) (fails_either (fails_above count 64) (fails_above count n))

fails_over : (key : List ℤ) (n count : ℕ)
    → FailsWhere (le_z (final_sum key n count) (pos 46225)) (46225 < nat_abs (final_sum key n count))
fails_over key n count =
    rw (ap (λ (z : ℤ). le_z z (pos 46225)) (never_negative key n count)) (fails_above (nat_abs (final_sum key n count)) 46225)

pub key_refuses_first : KeyRefusesFirst
unfolding key_answer key_refusal
key_refuses_first n key count =
    refuses 1 _ (fails_no_degree n) (λ p1.
    refuses 2 _ (fails_unequal (length key) (2 * n)) (λ p2.
    refuses 6 _ (fails_no_length n count) (λ p6.
    refuses 10 _ (fails_outside 7 key) (λ p10.
    refuses 13 _ (fails_over key n count) (λ p13. serves)))))

pub answers_with_the_sum : AnswersWithTheSum
unfolding key_answer
answers_with_the_sum n key count = record {
  passed = λ e. rw (eq-eqb (key_refusal n key count) 0 e) (sym (never_negative key n count));
  refused = λ h. rw (ne_eqb (key_refusal n key count) 0 h);
}
