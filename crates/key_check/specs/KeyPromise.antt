-- Request S-1: what a key that passes the check promises. Assumes nothing.
use Rattle.std.specs.Prelude.{◌≡◌, true, List, ◌↔◌, ℕ, ◌≤◌, length, get_or, ℤ, pos, nat_abs}
use Rattle.signed.specs.Vectors.{square_sum}
use Rattle.exponential.specs.Exponential.{exp}
use Rattle.challenge.specs.Challenge.{is_challenge}
use Rattle.challenge_product.specs.Product.{product}
use Rattle.response.specs.ByRule.{PlusOrMinus, OtherTestsPass, CoefficientsPass}
use Rattle.session.specs.declared.Session.{Session}
use Rattle.session.specs.Calls.{Respond, respond_left}
use Rattle.key_check.specs.KeyCheck.{final_sum, key_answer}

-- the final sum is a number without a sign
abbrev pub NeverNegative : Type 0
NeverNegative = (key : List ℤ) (n count : ℕ) → final_sum key n count ≡ pos (nat_abs (final_sum key n count))

-- for a key that passes at a length, A of no challenge of just that length is over 46,225
abbrev pub KeyPromise : Type 0
KeyPromise =
    (n : ℕ) (key : List ℤ) (count : ℕ) → (key_answer n key count).refusal ≡ 0 →
    (challenge : List ℕ) → is_challenge n challenge ≡ true → length challenge ≡ count →
    square_sum (product key n challenge) ≤ 46225

-- and so no respond with such a key and challenge is rejected for A: its bit is 1 exactly when the other tests pass
abbrev pub NeverRejectedForA : Type 0
NeverRejectedForA =
    (s : Session) (r : Respond) → let left = respond_left s r in let sc = product r.key s.degree r.challenge in
    (key_answer s.degree r.key (length r.challenge)).refusal ≡ 0 →
    left.responded.answer.refusal ≡ 0 →
    (z : List ℤ) → PlusOrMinus (get_or r.words 0 0) r.y sc z →
    (left.responded.answer.bit ≡ true)
    ↔ (OtherTestsPass exp sc z (get_or r.words 1 0) (get_or r.words 2 0) × CoefficientsPass s.degree z)
