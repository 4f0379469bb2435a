-- Request S-2: the coefficients of a response that is served, as its caller sees them. Assumes nothing.
use Rattle.std.specs.Prelude.{◌≡◌, true, List, ℕ, ◌≤◌, ◌<◌, ℤ, pos, nat_abs, get_or}
use Rattle.exponential.specs.Exponential.{exp}
use Rattle.challenge_product.specs.Product.{product}
use Rattle.response.specs.ByRule.{PlusOrMinus, FourTestsPass}
use Rattle.session.specs.declared.Session.{Session}
use Rattle.session.specs.Calls.{Respond, respond_left}

-- what the box signs, the verifier takes: where the bit is 1, each value of z1, the first n values of the z that is handed back, is from
-- -2,100 to 2,100
abbrev pub CoefficientsInRange : Type 0
CoefficientsInRange =
    (s : Session) (r : Respond) → let left = respond_left s r in
    left.responded.answer.refusal ≡ 0 → left.responded.answer.bit ≡ true →
    (i : ℕ) → i < s.degree → nat_abs (get_or left.z i (pos 0)) ≤ 2100

-- z2 is not tested: where document 01's four tests pass, and each value of z1 is from -2,100 to 2,100, the bit is 1, whatever z2 holds
abbrev pub SecondHalfUntested : Type 0
SecondHalfUntested =
    (s : Session) (r : Respond) → let left = respond_left s r in let sc = product r.key s.degree r.challenge in
    left.responded.answer.refusal ≡ 0 →
    (z : List ℤ) → PlusOrMinus (get_or r.words 0 0) r.y sc z →
    FourTestsPass exp sc z (get_or r.words 1 0) (get_or r.words 2 0) →
    ((i : ℕ) → i < s.degree → nat_abs (get_or z i (pos 0)) ≤ 2100) →
    left.responded.answer.bit ≡ true
