-- What a call leaves, by whether it is refused, and what it writes into its list. Assumes nothing.
use mathlib.Core.Path.{◌≡◌, refl, sym, ◌∙◌}
use mathlib.Core.Bool.{cond}
use mathlib.Core.List.{List, []}
use Prim.Native.Nat.{ℕ, zero, suc, ◌*◌, ◌≤◌}
use native.Mathlib.Nat.{le_trans}
use native.Mathlib.Omega.{arith}
use lib.Dec.{eqb}
use lib.ListN.{length, take, drop}
use lib.Seq.{sets, length-sets}
use borrow.Author.Tests.{eq-eqb, ne_eqb}
use Rattle.read_list.specs.Entries.{filled_part}
use Rattle.lists.proofs.AtTheStart.{take_written, rest_unwritten}
use Rattle.read_list.proofs.FilledPart.{filled_up_to}
use Rattle.sampler.specs.Draw.{draw_list_length, draw_entries, sampled_by}
use Rattle.sampler.proofs.DrawTells.{draw_entries_at_most}
use Rattle.response.specs.Response.{respond_entries, responded_by}
use Rattle.response.proofs.RespondTells.{length_respond_entries}
use Rattle.refusals.proofs.Served.{DrawServed, draw_served_lem, RespondServed, respond_served_lem}
use Rattle.session.specs.declared.Session.{Session}
use Rattle.session.specs.Calls.{Draw, DrawLeft, refusal_of_draw, bits_of_draw, draw_refused, draw_served, draw_left}
use Rattle.session.specs.Calls.{Respond, RespondLeft, refusal_of_respond, bit_of_respond, z_of_respond, respond_refused, respond_served}
use Rattle.session.specs.Calls.{respond_left}

-- ** Served or refused

-- a call is served, where its refusal is 0, or refused
pub by_refusal : {P : Type 0} (refusal : ℕ) → (refusal ≡ 0 → P) → ((refusal ≡ 0 → ⊥) → P) → P
by_refusal zero served refused = served refl
by_refusal (suc k) served refused = refused (λ e. omega arith)

-- what is left, of which number is the refusal: that of a call that is served, or of one that is refused
pub record Chosen {A : Type 0} (number : A → ℕ) (refusal : ℕ) (served refused left : A) : Type 0 where
  pub number_is : number left ≡ refusal
  pub where_served : number left ≡ 0 → left ≡ served
  pub where_refused : (number left ≡ 0 → ⊥) → left ≡ refused

pub chosen : {A : Type 0} (number : A → ℕ) (refusal : ℕ) (served refused : A) → number served ≡ 0 → number refused ≡ refusal
    → Chosen number refusal served refused (cond (eqb refusal 0) served refused)
chosen number refusal served refused none own =
    by_refusal refusal
    (λ h. rw (eq-eqb refusal 0 h) (record { number_is = none ∙ sym h; where_served = λ g. refl; where_refused = λ g. absurd (g none) }))
    (λ h. rw (ne_eqb refusal 0 h) (record { number_is = own; where_served = λ g. absurd (h (sym own ∙ g)); where_refused = λ g. refl }))

pub draw_left_lem : (s : Session) (d : Draw) →
    Chosen (λ (left : DrawLeft). left.drawn.answer.refusal) (refusal_of_draw s d)
    (draw_served s (sampled_by s.degree d.cdt d.words (bits_of_draw s d) d.list)) (draw_refused (refusal_of_draw s d) s d) (draw_left s d)
unfolding draw_left draw_served draw_refused
draw_left_lem s d = chosen _ (refusal_of_draw s d) _ _ refl refl

pub respond_left_lem : (s : Session) (r : Respond) →
    Chosen (λ (left : RespondLeft). left.responded.answer.refusal) (refusal_of_respond s r)
    (respond_served s (responded_by s.degree (bit_of_respond s r) r.challenge (z_of_respond s r) r.list)) (respond_refused (refusal_of_respond s r) s r)
    (respond_left s r)
unfolding respond_left respond_served respond_refused
respond_left_lem s r = chosen _ (refusal_of_respond s r) _ _ refl refl

-- ** What is known of a call that is served

abbrev pub DrawPassed : (s : Session) (d : Draw) → Type 0
DrawPassed s d =
    DrawServed s.degree s.deviation d.limit d.cdt d.polynomial (length d.words) (length d.y) (length d.list)

pub draw_passed : (s : Session) (d : Draw) → (draw_left s d).drawn.answer.refusal ≡ 0 → DrawPassed s d
unfolding refusal_of_draw
draw_passed s d h = draw_served_lem _ _ _ _ _ _ _ _ (sym (draw_left_lem s d).number_is ∙ h)

abbrev pub RespondPassed : (s : Session) (r : Respond) → Type 0
RespondPassed s r =
    RespondServed s.degree s.drawn r.challenge r.polynomial (length r.words) r.key r.y (length r.z)
    (length r.list)

pub respond_passed : (s : Session) (r : Respond) → (respond_left s r).responded.answer.refusal ≡ 0 → RespondPassed s r
unfolding refusal_of_respond
respond_passed s r h = respond_served_lem _ s.deviation _ _ _ _ _ _ _ _ (sym (respond_left_lem s r).number_is ∙ h)

-- ** What a call writes into its list

-- the entries that it writes: none where it is refused
unfoldable pub draw_writes : Session → Draw → List ℕ
draw_writes s d = cond (eqb (draw_left s d).drawn.answer.refusal 0) (draw_entries s.degree (bits_of_draw s d)) []

unfoldable pub respond_writes : Session → Respond → List ℕ
respond_writes s r = cond (eqb (respond_left s r).responded.answer.refusal 0) (respond_entries s.degree (bit_of_respond s r) r.challenge) []

-- they stand at the start of the list after the call, as many as are counted, and behind them it is as it was lent
pub record Wrote (entries lent left : List ℕ) (count : ℕ) : Type 0 where
  pub fits : count ≤ length lent
  pub filled : filled_part left count ≡ take count left
  pub taken : take count left ≡ entries
  pub rest : drop count left ≡ drop count lent

wrote : (entries lent : List ℕ) → length entries ≤ length lent → Wrote entries lent (sets lent 0 entries) (length entries)
wrote entries lent h = record {
  fits = h;
  filled = (filled_up_to (sets lent 0 entries) (length entries)).up_to (rw length-sets h);
  taken = take_written lent entries h;
  rest = rest_unwritten lent entries h;
}

pub draw_entries_few : (s : Session) (d : Draw) → length (draw_entries s.degree (bits_of_draw s d)) ≤ draw_list_length d.limit
unfolding bits_of_draw
draw_entries_few s d = draw_entries_at_most _ d.cdt d.words s.degree d.limit (2 * s.degree)

pub draw_fits : (s : Session) (d : Draw) → (draw_left s d).drawn.answer.refusal ≡ 0
    → length (draw_entries s.degree (bits_of_draw s d)) ≤ length d.list
draw_fits s d h = le_trans (draw_entries_few s d) (draw_passed s d h).list_enough

pub draw_wrote : (s : Session) (d : Draw) → let left = draw_left s d in
    Wrote (draw_writes s d) d.list left.list left.drawn.answer.entries
unfolding draw_writes draw_served draw_refused sampled_by
draw_wrote s d =
    by_refusal (draw_left s d).drawn.answer.refusal
    (λ h. rw ((draw_left_lem s d).where_served h) (wrote _ d.list (draw_fits s d h)))
    (λ h. rw (ne_eqb _ 0 h, (draw_left_lem s d).where_refused h) (wrote [] d.list (omega arith)))

pub respond_fits : (s : Session) (r : Respond) → (respond_left s r).responded.answer.refusal ≡ 0
    → length (respond_entries s.degree (bit_of_respond s r) r.challenge) ≤ length r.list
respond_fits s r h = rw (length_respond_entries s.degree (bit_of_respond s r) r.challenge) (respond_passed s r h).list_enough

pub respond_wrote : (s : Session) (r : Respond) → let left = respond_left s r in
    Wrote (respond_writes s r) r.list left.list left.responded.answer.entries
unfolding respond_writes respond_served respond_refused responded_by
respond_wrote s r =
    by_refusal (respond_left s r).responded.answer.refusal
    (λ h. rw ((respond_left_lem s r).where_served h) (wrote _ r.list (respond_fits s r h)))
    (λ h. rw (ne_eqb _ 0 h, (respond_left_lem s r).where_refused h) (wrote [] r.list (omega arith)))
