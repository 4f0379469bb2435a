-- Lists of calls, their read lists and their histories. Assumes nothing.
use Rattle.std.specs.Prelude.{◌≡◌, Bool, cond, List, [], ◌∷◌, ◌++◌, ℕ, eqb, ℤ}
use Rattle.read_list.specs.Entries.{filled_part}
use Rattle.sampler.specs.Draw.{draw_entries}
use Rattle.response.specs.Response.{respond_entries}
use Rattle.session.specs.declared.Session.{Session}
use Rattle.session.specs.Calls.{Draw, DrawLeft, bits_of_draw, draw_left, Respond, RespondLeft, bit_of_respond, respond_left}

-- ** One call

pub data Call : Type 0 where
  draw : Draw → Call
  respond : Respond → Call

-- what a call leaves
pub data Left : Type 0 where
  drawn : DrawLeft → Left
  responded : RespondLeft → Left

unfoldable pub left_by : Session → Call → Left
left_by s (draw d) = drawn (draw_left s d)
left_by s (respond r) = responded (respond_left s r)

-- its refusal, or 0
abbrev pub refusal_in : Left → ℕ
refusal_in (drawn l) = l.drawn.answer.refusal
refusal_in (responded l) = l.responded.answer.refusal

-- the next session
abbrev pub next_in : Left → Session
next_in (drawn l) = l.drawn.session
next_in (responded l) = l.responded.session

-- y after the call
abbrev pub y_in : Left → List ℤ
y_in (drawn l) = l.y
y_in (responded l) = l.y

-- the entries that it wrote: the filled part of its list after the call, for the count of its answer
abbrev pub entries_in : Left → List ℕ
entries_in (drawn l) = filled_part l.list l.drawn.answer.entries
entries_in (responded l) = filled_part l.list l.responded.answer.entries

-- the y that a call is lent
abbrev pub lent_y : Call → List ℤ
lent_y (draw d) = d.y
lent_y (respond r) = r.y

-- ** A list of calls: each takes the session that the one before handed back

-- the calls that are not refused are lent one and the same y, as the calls before left it; a refused call may be lent any y
unfoldable pub Linked : (s : Session) (y : List ℤ) (calls : List Call) → Type 0
Linked s y [] = Unit {0}
Linked s y (c ∷ calls) =
    (refusal_in (left_by s c) ≡ 0 → lent_y c ≡ y)
    × Linked (next_in (left_by s c)) (cond (eqb (refusal_in (left_by s c)) 0) (y_in (left_by s c)) y) calls

-- the read list: the entries of each call, in order
unfoldable pub read_list : (s : Session) (calls : List Call) → List ℕ
read_list s [] = []
read_list s (c ∷ calls) = entries_in (left_by s c) ++ read_list (next_in (left_by s c)) calls

-- ** Histories

-- what a history holds of a call: its kind, the degree, its accept bits and, for a response, the challenge
pub data Event : Type 0 where
  drew : (n : ℕ) (bits : List Bool) → Event
  answered : (n : ℕ) (accepted : Bool) (challenge : List ℕ) → Event

unfoldable pub event_of : Session → Call → Event
event_of s (draw d) = drew s.degree (bits_of_draw s d)
event_of s (respond r) = answered s.degree (bit_of_respond s r) r.challenge

-- the history: an event for each call that is not refused, in order
unfoldable pub history : (s : Session) (calls : List Call) → List Event
history s [] = []
history s (c ∷ calls) =
    cond (eqb (refusal_in (left_by s c)) 0)
    (event_of s c ∷ history (next_in (left_by s c)) calls)
    (history (next_in (left_by s c)) calls)

-- ** Histories as read lists

unfoldable pub render_event : Event → List ℕ
render_event (drew n bits) = draw_entries n bits
render_event (answered n accepted challenge) = respond_entries n accepted challenge

unfoldable pub render : List Event → List ℕ
render [] = []
render (e ∷ events) = render_event e ++ render events
