-- Request S-8, as the caller sees it: at deviation 215 every call answers what it did before the request. Refused, it touches nothing at
-- any deviation, and so there is nothing to say of that here. Assumes nothing.
use Rattle.std.specs.Prelude.{◌≡◌, ℕ}
use Rattle.checks.specs.RefusalTable.{Serves}
use Rattle.exponential.specs.Exponential.{exp}
use Rattle.refusals.specs.FirstRefusal.{RefusesAt215}
use Rattle.session.specs.declared.Session.{Session}
use Rattle.session.specs.Calls.{opened, Draw, bits_of_draw, draw_left, Respond, respond_left}
use Rattle.session.specs.ByRule.{lines_of_draw, lines_of_respond, DrawMade}

-- ** The refusals are those of document 01's table, which knows no deviation

abbrev pub OpeningRefusesAt215 : Type 0
OpeningRefusesAt215 = (n : ℕ) → RefusesAt215 n Serves (opened n 215).refusal

abbrev pub DrawRefusesAt215 : Type 0
DrawRefusesAt215 =
    (s : Session) (d : Draw) → s.deviation ≡ 215 → RefusesAt215 s.degree (lines_of_draw s d) (draw_left s d).drawn.answer.refusal

abbrev pub RespondRefusesAt215 : Type 0
RespondRefusesAt215 =
    (s : Session) (r : Respond) → s.deviation ≡ 215 →
    RefusesAt215 s.degree (lines_of_respond s r) (respond_left s r).responded.answer.refusal

-- ** A draw that is served is by the exponential by N alone; so is every respond that is

abbrev pub ServedDrawAt215 : Type 0
ServedDrawAt215 =
    (s : Session) (d : Draw) → s.deviation ≡ 215 → let left = draw_left s d in
    left.drawn.answer.refusal ≡ 0 → DrawMade exp s d left (bits_of_draw s d)
