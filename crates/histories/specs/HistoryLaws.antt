-- What lists of calls add up to, said of what the caller sees: however many they are, calls can be linked, and each adds its entries and
-- its event to those of the calls behind it. Assumes nothing.
use Rattle.std.specs.Prelude.{◌≡◌, cond, List, [], ◌∷◌, ◌++◌, ◌≢◌, eqb, ℤ, take}
use Rattle.session.specs.declared.Session.{Session}
use Rattle.session.specs.Calls.{Draw, draw_of, DrawLeft, bits_of_draw, draw_left, Respond, respond_of, RespondLeft, respond_left}
use Rattle.histories.specs.Histories.{Call, draw, respond, left_by, refusal_in, next_in, y_in}
use Rattle.histories.specs.Histories.{Linked, read_list, drew, answered, history}
use Rattle.histories.specs.Demand3.{sampled, answer, seen}

-- ** Any calls can be linked

-- a call that is lent another y
abbrev pub lending : (y : List ℤ) → Call → Call
lending y (draw d) = draw (draw_of d.limit d.cdt d.polynomial d.words y d.list)
lending y (respond r) = respond (respond_of r.challenge r.polynomial r.words r.key y r.z r.list)

-- calls that are each lent y as the calls before left it
unfoldable pub threaded : (s : Session) (y : List ℤ) (calls : List Call) → List Call
threaded s y [] = []
threaded s y (c ∷ calls) =
    let left = left_by s (lending y c) in
    lending y c ∷ threaded (next_in left) (cond (eqb (refusal_in left) 0) (y_in left) y) calls

-- such calls are linked, whatever and however many they are: demand 3 speaks of them
abbrev pub AnyCallsLink : Type 0
AnyCallsLink = (s : Session) (y : List ℤ) (calls : List Call) → Linked s y (threaded s y calls)

-- ** No calls

-- nothing is read, nothing is in the history, and nothing is seen
pub record NoCalls (s : Session) : Type 0 where
  pub reads : read_list s [] ≡ []
  pub history_is : history s [] ≡ []
  pub seen_is : seen s [] ≡ []

abbrev pub NoCallsAddNothing : Type 0
NoCallsAddNothing = (s : Session) → NoCalls s

-- ** One call before others

-- a draw: the entries that its answer counts stand first, and so does its event where it is not refused; the others follow from the next
-- session. Others that are lent y as it leaves it are linked behind it; refused, it adds no event, and may be lent any y
pub record DrawAdds (s : Session) (d : Draw) (left : DrawLeft) (calls : List Call) : Type 0 where
  pub reads : read_list s (draw d ∷ calls) ≡ take left.drawn.answer.entries left.list ++ read_list left.drawn.session calls
  pub served : left.drawn.answer.refusal ≡ 0
      → history s (draw d ∷ calls) ≡ drew s.degree (bits_of_draw s d) ∷ history left.drawn.session calls
  pub refused : left.drawn.answer.refusal ≢ 0 → history s (draw d ∷ calls) ≡ history left.drawn.session calls
  pub links_served : left.drawn.answer.refusal ≡ 0
      → Linked left.drawn.session left.y calls → Linked s d.y (draw d ∷ calls)
  pub links_refused : left.drawn.answer.refusal ≢ 0
      → (y : List ℤ) → Linked left.drawn.session y calls → Linked s y (draw d ∷ calls)
  pub seen_first : seen s (draw d ∷ calls) ≡ sampled left.drawn left.y ∷ seen left.drawn.session calls

abbrev pub EveryDrawAdds : Type 0
EveryDrawAdds = (s : Session) (d : Draw) (calls : List Call) → DrawAdds s d (draw_left s d) calls

-- a respond: likewise; the bit of its event is that of its answer
pub record RespondAdds (s : Session) (r : Respond) (left : RespondLeft) (calls : List Call) : Type 0 where
  pub reads : read_list s (respond r ∷ calls)
      ≡ take left.responded.answer.entries left.list ++ read_list left.responded.session calls
  pub served : left.responded.answer.refusal ≡ 0
      → history s (respond r ∷ calls)
      ≡ answered s.degree left.responded.answer.bit r.challenge ∷ history left.responded.session calls
  pub refused : left.responded.answer.refusal ≢ 0 → history s (respond r ∷ calls) ≡ history left.responded.session calls
  pub links_served : left.responded.answer.refusal ≡ 0
      → Linked left.responded.session left.y calls → Linked s r.y (respond r ∷ calls)
  pub links_refused : left.responded.answer.refusal ≢ 0
      → (y : List ℤ) → Linked left.responded.session y calls → Linked s y (respond r ∷ calls)
  pub seen_first : seen s (respond r ∷ calls) ≡ answer left.responded left.y left.z ∷ seen left.responded.session calls

abbrev pub EveryRespondAdds : Type 0
EveryRespondAdds = (s : Session) (r : Respond) (calls : List Call) → RespondAdds s r (respond_left s r) calls
