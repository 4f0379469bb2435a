-- Each call by the words of document 01 and requests S-2 and S-8, said of what the caller sees and not by the definitions of Calls. Assumes
-- nothing.
use Rattle.std.specs.Prelude.{◌≡◌, Bool, true, List, ◌↔◌, ℕ, ◌+◌, ◌*◌, ℤ, length, get_or, take}
use Rattle.exponential.specs.Exponential.{exp}
use Rattle.deviations.specs.Deviations.{exp_at}
use Rattle.attempt.specs.Attempt.{bit_at, sample_at}
use Rattle.sampler.specs.Draw.{accepted, Stops, InOrder, Listed}
use Rattle.challenge_product.specs.Product.{product}
use Rattle.response.specs.ByRule.{PlusOrMinus, AllTestsPass, ResponseListed}
use Rattle.refusals.specs.FirstRefusal.{DrawLines, RespondLines, OpeningRefuses, DrawRefuses, RespondRefuses}
use Rattle.session.specs.declared.Session.{Session}
use Rattle.session.specs.Calls.{opened, Draw, DrawLeft, bits_of_draw, draw_left, Respond, RespondLeft, respond_left}

-- ** The refusal of an answer is the first that applies, or 0

-- the lines of the table behind those of degree and deviation, for a draw
abbrev pub lines_of_draw : (s : Session) (d : Draw) (refusal : ℕ) → Type 0
lines_of_draw s d = DrawLines s.degree d.limit d.cdt d.polynomial (length d.words) (length d.y) (length d.list)

-- and for a respond
abbrev pub lines_of_respond : (s : Session) (r : Respond) (refusal : ℕ) → Type 0
lines_of_respond s r =
    RespondLines s.degree s.drawn r.challenge r.polynomial (length r.words) r.key r.y (length r.z)
    (length r.list)

abbrev pub OpeningRefusesFirst : Type 0
OpeningRefusesFirst = (n deviation : ℕ) → OpeningRefuses n deviation (opened n deviation).refusal

abbrev pub DrawRefusesFirst : Type 0
DrawRefusesFirst =
    (s : Session) (d : Draw) →
    DrawRefuses s.degree s.deviation (lines_of_draw s d) (draw_left s d).drawn.answer.refusal

abbrev pub RespondRefusesFirst : Type 0
RespondRefusesFirst =
    (s : Session) (r : Respond) →
    RespondRefuses s.degree s.deviation (lines_of_respond s r) (respond_left s r).responded.answer.refusal

-- ** A draw that is served

-- these are the bits of its attempts: by e, until there are 2n samples or its limit is reached; its answer counts them, its list has
-- their entries, and where there are 2n samples y has them in the order of acceptance
pub record DrawMade (e : ℕ → ℕ) (s : Session) (d : Draw) (left : DrawLeft) (bits : List Bool) : Type 0 where
  pub stops : Stops (bit_at e d.cdt d.words) 0 d.limit (2 * s.degree) bits
  pub attempts : left.drawn.answer.attempts ≡ length bits
  pub accepted_count : left.drawn.answer.accepted ≡ accepted bits
  pub entries : left.drawn.answer.entries ≡ 46 * length bits + 2
  pub listed : Listed s.degree bits (take left.drawn.answer.entries left.list)
  pub samples : accepted bits ≡ 2 * s.degree → InOrder (sample_at d.cdt d.words) bits left.y

-- e(N) is that of the session's deviation, and the bits are those that its history holds
abbrev pub ServedDrawByRule : Type 0
ServedDrawByRule =
    (s : Session) (d : Draw) → let left = draw_left s d in
    left.drawn.answer.refusal ≡ 0 → DrawMade (exp_at s.deviation) s d left (bits_of_draw s d)

-- ** A respond that is served

-- for the z that is y plus or minus Sc, the bit is 1 exactly when all tests pass, by e(N); then it is the z that is handed back. Its list
-- has its entries, the bit last
pub record RespondMade (s : Session) (r : Respond) (left : RespondLeft) (sc : List ℤ) : Type 0 where
  pub bit : (z : List ℤ) → PlusOrMinus (get_or r.words 0 0) r.y sc z
      → (left.responded.answer.bit ≡ true) ↔ AllTestsPass exp s.degree sc z (get_or r.words 1 0) (get_or r.words 2 0)
  pub z : left.responded.answer.bit ≡ true → PlusOrMinus (get_or r.words 0 0) r.y sc left.z
  pub listed : ResponseListed s.degree r.challenge left.responded.answer.bit
      (take left.responded.answer.entries left.list)

abbrev pub ServedRespondByRule : Type 0
ServedRespondByRule =
    (s : Session) (r : Respond) → let left = respond_left s r in
    left.responded.answer.refusal ≡ 0 → RespondMade s r left (product r.key s.degree r.challenge)
