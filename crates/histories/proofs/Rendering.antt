-- The first half of demand 3: the read list of calls is their history, rendered, and a history can be read off its rendering. Assumes
-- nothing.
use mathlib.Core.Path.{◌≡◌, refl, sym, ap, ap₂, ◌∙◌}
use mathlib.Core.Bool.{true}
use mathlib.Core.List.{List, [], ◌∷◌, ◌++◌, append_assoc, head-eq_of_cons-eq}
use mathlib.Core.Logic.{◌↔◌}
use Prim.Native.Nat.{ℕ, ◌*◌, ◌≤◌}
use native.Mathlib.Omega.{arith}
use lib.ListN.{length}
use borrow.Author.Tests.{eq-eqb, ne_eqb}
use Rattle.checks.specs.Checks.{is_degree}
use Rattle.checks.proofs.Degrees.{degree_range}
use Rattle.sampler.specs.Draw.{draw_entries}
use Rattle.sampler.proofs.DrawTells.{length_draw_entries, draw_tells}
use Rattle.challenge.specs.Challenge.{positions_below}
use Rattle.response.specs.Response.{respond_entries}
use Rattle.response.proofs.RespondTells.{respond_tells}
use Rattle.session.specs.declared.Session.{Session}
use Rattle.session.specs.Calls.{bits_of_draw}
use Rattle.histories.specs.Histories.{Call, draw, respond, left_by, refusal_in, next_in, entries_in, read_list, Event, drew, answered}
use Rattle.histories.specs.Histories.{event_of, history, render_event, render}
use Rattle.session.proofs.Calls.{by_refusal, draw_passed, draw_entries_few, respond_passed}
use Rattle.histories.proofs.Entries.{served_entries, refused_entries}

-- ** Events that occur

-- the events that a history can hold: n is a degree, and there are at most 32n attempts, or every position is below n
abbrev pub Occurs : Event → Type 0
Occurs (drew n bits) = (is_degree n ≡ true) × (length bits ≤ 32 * n)
Occurs (answered n accepted challenge) = (is_degree n ≡ true) × (positions_below n challenge ≡ true)

abbrev pub AllOccur : List Event → Type 0
AllOccur [] = Unit {0}
AllOccur (e ∷ events) = Occurs e × AllOccur events

pub event_occurs : (s : Session) (c : Call) → refusal_in (left_by s c) ≡ 0 → Occurs (event_of s c)
unfolding left_by event_of
event_occurs s (draw d) h =
    let passed = draw_passed s d h in
    (passed.degree, omega (arith, draw_entries_few s d, length_draw_entries s.degree (bits_of_draw s d), passed.limit_high))
event_occurs s (respond r) h =
    let passed = respond_passed s r h in
    (passed.degree, passed.positions.below)

pub history_occurs : (s : Session) (calls : List Call) → AllOccur (history s calls)
unfolding history
history_occurs s [] = tt
history_occurs s (c ∷ calls) =
    by_refusal (refusal_in (left_by s c))
    (λ h. rw (eq-eqb (refusal_in (left_by s c)) 0 h) (event_occurs s c h, history_occurs (next_in (left_by s c)) calls))
    (λ h. rw (ne_eqb (refusal_in (left_by s c)) 0 h) (history_occurs (next_in (left_by s c)) calls))

-- ** Read lists are rendered histories

pub read_list_is_rendered : (s : Session) (calls : List Call) → read_list s calls ≡ render (history s calls)
unfolding read_list history render
read_list_is_rendered s [] = refl
read_list_is_rendered s (c ∷ calls) =
    by_refusal (refusal_in (left_by s c))
    (λ h. rw (eq-eqb (refusal_in (left_by s c)) 0 h) (ap₂ ◌++◌ (served_entries s c h) (read_list_is_rendered (next_in (left_by s c)) calls)))
    (λ h. rw (ne_eqb (refusal_in (left_by s c)) 0 h, refused_entries s c h) (read_list_is_rendered (next_in (left_by s c)) calls))

-- ** What a rendering tells

-- the first event of a rendering, and what follows it: the first entry tells the kind of the call and its degree
pub event_tells : (e f : Event) (rest rest' : List ℕ) → Occurs e → Occurs f → render_event e ++ rest ≡ render_event f ++ rest'
    → (e ≡ f) × (rest ≡ rest')
unfolding render_event draw_entries respond_entries
event_tells (drew n bits) (drew m bits') rest rest' he hf h =
    let small = degree_range n he.0 in
    let small' = degree_range m hf.0 in
    let k = draw_tells n m bits bits' rest rest' (omega arith) (omega arith) h in
    (ap₂ drew k.0 k.1, k.2)
event_tells (drew n bits) (answered m accepted challenge) rest rest' he hf h =
    absurd (let first = head-eq_of_cons-eq h in let small = degree_range n he.0 in omega arith)
event_tells (answered n accepted challenge) (drew m bits) rest rest' he hf h =
    absurd (let first = head-eq_of_cons-eq h in let small = degree_range m hf.0 in omega arith)
event_tells (answered n accepted challenge) (answered m accepted' challenge') rest rest' he hf h =
    let range = degree_range n he.0 in
    let k = respond_tells n m accepted accepted' challenge challenge' rest rest' (omega arith) he.1 hf.1 h in
    (cc, k.3)

no_event_renders_empty : (e : Event) (rest : List ℕ) → [] ≡ render_event e ++ rest → ⊥
unfolding render_event draw_entries respond_entries
no_event_renders_empty (drew n bits) rest h = let lengths = ap length h in omega arith
no_event_renders_empty (answered n accepted challenge) rest h = let lengths = ap length h in omega arith

pub render_injective : (events events' : List Event) → AllOccur events → AllOccur events' → render events ≡ render events'
    → events ≡ events'
unfolding render
render_injective [] [] h h' e = refl
render_injective [] (f ∷ events') h h' e = absurd (no_event_renders_empty f (render events') e)
render_injective (f ∷ events) [] h h' e = absurd (no_event_renders_empty f (render events) (sym e))
render_injective (f ∷ events) (f' ∷ events') h h' e =
    let k = event_tells f f' (render events) (render events') h.0 h'.0 e in
    ap₂ ◌∷◌ k.0 (render_injective events events' h.1 h'.1 k.1)

-- ** The first half of demand 3

-- the read lists are equal exactly when the histories are
pub reads_tell : (s s' : Session) (calls calls' : List Call)
    → (read_list s calls ≡ read_list s' calls') ↔ (history s calls ≡ history s' calls')
reads_tell s s' calls calls' = (
  λ e.
      render_injective (history s calls) (history s' calls') (history_occurs s calls) (history_occurs s' calls')
      (sym (read_list_is_rendered s calls) ∙ e ∙ read_list_is_rendered s' calls'),
  λ e. read_list_is_rendered s calls ∙ ap render e ∙ sym (read_list_is_rendered s' calls'),
)

-- ** One list after another

pub render_append : (events events' : List Event) → render (events ++ events') ≡ render events ++ render events'
unfolding render
render_append [] events' = refl
render_append (e ∷ events) events' = rw (render_append events events') (sym (append_assoc (render_event e) (render events) (render events')))

-- the session after a list of calls
unfoldable pub session_after : (s : Session) (calls : List Call) → Session
session_after s [] = s
session_after s (c ∷ calls) = session_after (next_in (left_by s c)) calls

pub read_list_append : (s : Session) (calls later : List Call)
    → read_list s (calls ++ later) ≡ read_list s calls ++ read_list (session_after s calls) later
unfolding read_list session_after
read_list_append s [] later = refl
read_list_append s (c ∷ calls) later =
    rw (read_list_append (next_in (left_by s c)) calls later)
    (sym (append_assoc (entries_in (left_by s c)) (read_list (next_in (left_by s c)) calls) (read_list (session_after (next_in (left_by s c)) calls) later)))

pub history_append : (s : Session) (calls later : List Call)
    → history s (calls ++ later) ≡ history s calls ++ history (session_after s calls) later
unfolding history session_after
history_append s [] later = refl
history_append s (c ∷ calls) later =
    by_refusal (refusal_in (left_by s c))
    (λ h. rw (eq-eqb (refusal_in (left_by s c)) 0 h) (ap (λ (events : List Event). event_of s c ∷ events) (history_append (next_in (left_by s c)) calls later)))
    (λ h. rw (ne_eqb (refusal_in (left_by s c)) 0 h) (history_append (next_in (left_by s c)) calls later))
