-- Request S-5, as the caller sees it: responds to the empty challenge, and all others as they were. Assumes nothing.
use Rattle.std.specs.Prelude.{◌≡◌, true, cond, [], ◌↔◌, ◌≢◌, ℕ, eqb, length, get_or, take}
use Rattle.exponential.specs.Exponential.{exp}
use Rattle.response.specs.Response.{responded_by}
use Rattle.response.specs.Blank.{BlankPasses, blank_entries}
use Rattle.refusals.specs.Refusals.{respond_refusal_before}
use Rattle.refusals.specs.FirstRefusal.{BlankLines, RespondRefuses}
use Rattle.session.specs.declared.Session.{Session}
use Rattle.session.specs.Calls.{Respond, RespondLeft, bit_of_respond, z_of_respond, respond_refused, respond_served, respond_left}

-- ** The empty challenge

-- the refusal is the first that applies of the table without line 6
abbrev pub BlankRefusesFirst : Type 0
BlankRefusesFirst =
    (s : Session) (r : Respond) → r.challenge ≡ [] →
    RespondRefuses s.degree s.deviation
    (BlankLines s.degree s.drawn r.polynomial (length r.words) r.key r.y (length r.z) (length r.list))
    (respond_left s r).responded.answer.refusal

-- a blank response: where its bit is 1, z is y as it was before the call; the bit is 1 exactly when y passes what is left of the tests, by
-- e(N); and its list has 47 entries, none of them of the key
pub record Blank (s : Session) (r : Respond) (left : RespondLeft) : Type 0 where
  pub z : left.responded.answer.bit ≡ true → left.z ≡ r.y
  pub bit : (left.responded.answer.bit ≡ true) ↔ BlankPasses exp s.degree r.y (get_or r.words 1 0)
  pub entries : left.responded.answer.entries ≡ 47
  pub listed : take 47 left.list ≡ blank_entries s.degree left.responded.answer.bit

-- that is what a respond leaves that is served
abbrev pub BlankResponse : Type 0
BlankResponse =
    (s : Session) (r : Respond) → r.challenge ≡ [] → let left = respond_left s r in
    left.responded.answer.refusal ≡ 0 → Blank s r left

-- ** All other challenges

-- the refusal by document 01's line 6
abbrev pub refusal_before : (s : Session) (r : Respond) → ℕ
refusal_before s r =
    respond_refusal_before s.degree s.deviation s.drawn r.challenge r.polynomial (length r.words) r.key r.y
    (length r.z) (length r.list)

-- what a respond left by it
abbrev pub left_before : (s : Session) (r : Respond) → RespondLeft
left_before s r =
    cond (eqb (refusal_before s r) 0)
    (respond_served s (responded_by s.degree (bit_of_respond s r) r.challenge (z_of_respond s r) r.list))
    (respond_refused (refusal_before s r) s r)

-- a challenge with a position is answered as it was
abbrev pub AnsweredAsBefore : Type 0
AnsweredAsBefore = (s : Session) (r : Respond) → r.challenge ≢ [] → respond_left s r ≡ left_before s r
