-- What follows for every call, refused or served, said of what the caller sees and not by the definitions of Calls. Assumes nothing.
use Rattle.std.specs.Prelude.{◌≡◌, false, ◌↔◌, ◌≢◌, ℕ, ◌*◌, ◌≤◌, pos, length, drop, replicate}
use Rattle.sampler.specs.Draw.{draw_list_length}
use Rattle.response.specs.Response.{respond_list_length}
use Rattle.session.specs.declared.Session.{Session}
use Rattle.session.specs.declared.Opened.{Opened}
use Rattle.session.specs.Calls.{opened, Draw, DrawLeft, draw_left, Respond, RespondLeft, respond_left}

-- ** An opening

-- nothing is drawn; served, the degree is n and the deviation the one that was asked for, and refused both are 0
pub record Fresh (n deviation : ℕ) (o : Opened) : Type 0 where
  pub not_drawn : o.session.drawn ≡ 0
  pub served : o.refusal ≡ 0 → (o.session.degree ≡ n) × (o.session.deviation ≡ deviation)
  pub refused : (o.refusal ≡ 0 → ⊥) → (o.session.degree ≡ 0) × (o.session.deviation ≡ 0)

abbrev pub OpeningIsFresh : Type 0
OpeningIsFresh = (n deviation : ℕ) → Fresh n deviation (opened n deviation)

-- ** A draw

-- its count of entries is at most 46L + 2, and at most the length of its list; behind them the list is unchanged
abbrev pub DrawCountsEntries : Type 0
DrawCountsEntries =
    (s : Session) (d : Draw) → let left = draw_left s d in let count = left.drawn.answer.entries in
    (count ≤ draw_list_length d.limit) × (count ≤ length d.list) × (drop count left.list ≡ drop count d.list)

-- it keeps the degree
abbrev pub DrawKeepsDegree : Type 0
DrawKeepsDegree = (s : Session) (d : Draw) → (draw_left s d).drawn.session.degree ≡ s.degree

-- and the deviation
abbrev pub DrawKeepsDeviation : Type 0
DrawKeepsDeviation = (s : Session) (d : Draw) → (draw_left s d).drawn.session.deviation ≡ s.deviation

-- the session, y and the list are as they were, and nothing is counted
pub record DrawUntouched (s : Session) (d : Draw) (left : DrawLeft) : Type 0 where
  pub session : left.drawn.session ≡ s
  pub y : left.y ≡ d.y
  pub list : left.list ≡ d.list
  pub attempts : left.drawn.answer.attempts ≡ 0
  pub accepted : left.drawn.answer.accepted ≡ 0
  pub entries : left.drawn.answer.entries ≡ 0

-- so a refused draw leaves it
abbrev pub RefusedDrawTouchesNothing : Type 0
RefusedDrawTouchesNothing =
    (s : Session) (d : Draw) → let left = draw_left s d in
    (left.drawn.answer.refusal ≡ 0 → ⊥) → DrawUntouched s d left

-- served, drawn is 1 exactly where it is full, and else 0; then y is all zero
pub record DrawnIfFull (s : Session) (left : DrawLeft) : Type 0 where
  pub full : (left.drawn.session.drawn ≡ 1) ↔ (left.drawn.answer.accepted ≡ 2 * s.degree)
  pub spent : left.drawn.answer.accepted ≢ 2 * s.degree
      → (left.drawn.session.drawn ≡ 0) × (left.y ≡ replicate (2 * s.degree) (pos 0))

abbrev pub ServedDrawSetsDrawn : Type 0
ServedDrawSetsDrawn =
    (s : Session) (d : Draw) → let left = draw_left s d in
    left.drawn.answer.refusal ≡ 0 → DrawnIfFull s left

-- ** A respond

-- its count of entries is just 2n times the length of the challenge and 47 where it is served, and at most the length of its list; behind
-- them the list is unchanged
abbrev pub RespondCountsEntries : Type 0
RespondCountsEntries =
    (s : Session) (r : Respond) → let left = respond_left s r in let answer = left.responded.answer in
    (answer.refusal ≡ 0 → answer.entries ≡ respond_list_length s.degree (length r.challenge))
    × (answer.entries ≤ length r.list) × (drop answer.entries left.list ≡ drop answer.entries r.list)

-- it keeps the degree
abbrev pub RespondKeepsDegree : Type 0
RespondKeepsDegree = (s : Session) (r : Respond) → (respond_left s r).responded.session.degree ≡ s.degree

-- and the deviation
abbrev pub RespondKeepsDeviation : Type 0
RespondKeepsDeviation = (s : Session) (r : Respond) → (respond_left s r).responded.session.deviation ≡ s.deviation

-- the session, y, z and the list are as they were, and the bit and the count are 0
pub record RespondUntouched (s : Session) (r : Respond) (left : RespondLeft) : Type 0 where
  pub session : left.responded.session ≡ s
  pub y : left.y ≡ r.y
  pub z : left.z ≡ r.z
  pub list : left.list ≡ r.list
  pub bit : left.responded.answer.bit ≡ false
  pub entries : left.responded.answer.entries ≡ 0

-- so a refused respond leaves it
abbrev pub RefusedRespondTouchesNothing : Type 0
RefusedRespondTouchesNothing =
    (s : Session) (r : Respond) → let left = respond_left s r in
    (left.responded.answer.refusal ≡ 0 → ⊥) → RespondUntouched s r left

-- served, nothing is drawn any more, y is all zero, and so is z where the bit is 0
pub record NoiseSpent (s : Session) (left : RespondLeft) : Type 0 where
  pub not_drawn : left.responded.session.drawn ≡ 0
  pub y : left.y ≡ replicate (2 * s.degree) (pos 0)
  pub z : left.responded.answer.bit ≡ false → left.z ≡ replicate (2 * s.degree) (pos 0)

abbrev pub ServedRespondSpendsNoise : Type 0
ServedRespondSpendsNoise =
    (s : Session) (r : Respond) → let left = respond_left s r in
    left.responded.answer.refusal ≡ 0 → NoiseSpent s left

-- which test rejected it shows in nothing that it leaves: served, two responds of one session to one challenge, with their bits 0 and over
-- the same list, leave the same, whatever else they were lent
abbrev pub RejectionsAlike : Type 0
RejectionsAlike =
    (s : Session) (r r' : Respond) → let left = respond_left s r in let left' = respond_left s r' in
    left.responded.answer.refusal ≡ 0 → left'.responded.answer.refusal ≡ 0 →
    left.responded.answer.bit ≡ false → left'.responded.answer.bit ≡ false →
    r.challenge ≡ r'.challenge → r.list ≡ r'.list → left ≡ left'
