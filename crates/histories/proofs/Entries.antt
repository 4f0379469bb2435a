-- The entries of a call: those of its event where it is served, else none. Assumes nothing.
use mathlib.Core.Path.{◌≡◌, ◌∙◌}
use mathlib.Core.List.{[]}
use borrow.Author.Tests.{eq-eqb, ne_eqb}
use Rattle.session.specs.declared.Session.{Session}
use Rattle.session.proofs.Calls.{draw_writes, respond_writes, draw_wrote, respond_wrote}
use Rattle.histories.specs.Histories.{Call, draw, respond, left_by, refusal_in, entries_in, event_of, render_event}

pub served_entries : (s : Session) (c : Call) → refusal_in (left_by s c) ≡ 0 → entries_in (left_by s c) ≡ render_event (event_of s c)
unfolding left_by event_of render_event draw_writes respond_writes
served_entries s (draw d) h = (draw_wrote s d).filled ∙ (draw_wrote s d).taken ∙ rw (eq-eqb _ 0 h)
served_entries s (respond r) h = (respond_wrote s r).filled ∙ (respond_wrote s r).taken ∙ rw (eq-eqb _ 0 h)

pub refused_entries : (s : Session) (c : Call) → (refusal_in (left_by s c) ≡ 0 → ⊥) → entries_in (left_by s c) ≡ []
unfolding left_by draw_writes respond_writes
refused_entries s (draw d) h = (draw_wrote s d).filled ∙ (draw_wrote s d).taken ∙ rw (ne_eqb _ 0 h)
refused_entries s (respond r) h = (respond_wrote s r).filled ∙ (respond_wrote s r).taken ∙ rw (ne_eqb _ 0 h)
