-- What lists of calls add up to. Assumes nothing.
use mathlib.Core.Path.{◌≡◌, refl, ap}
use mathlib.Core.Bool.{cond}
use mathlib.Core.List.{List, [], ◌∷◌, ◌++◌}
use Prim.Native.Nat.{ℕ}
use lib.Dec.{eqb}
use lib.IntN.{ℤ}
use borrow.Author.Tests.{eq-eqb, ne_eqb}
use Rattle.response.specs.Response.{responded_by}
use Rattle.session.specs.declared.Session.{Session}
use Rattle.session.specs.Calls.{draw_left, Respond, bit_of_respond, respond_served, respond_left}
use Rattle.histories.specs.Histories.{Call, draw, respond, left_by, refusal_in, next_in, y_in, lent_y, Linked, read_list, event_of, history}
use Rattle.histories.specs.Demand3.{seen}
use Rattle.histories.specs.HistoryLaws.{lending, threaded, AnyCallsLink, NoCallsAddNothing, EveryDrawAdds, EveryRespondAdds}
use Rattle.session.proofs.Calls.{draw_wrote, respond_left_lem, respond_wrote}

-- ** Any calls can be linked

lends : (y : List ℤ) (c : Call) → lent_y (lending y c) ≡ y
lends y (draw d) = refl
lends y (respond r) = refl

pub any_calls_link : AnyCallsLink
unfolding Linked threaded
any_calls_link s y [] = tt
any_calls_link s y (c ∷ calls) = let left = left_by s (lending y c) in ((λ h. lends y c), any_calls_link (next_in left) (cond (eqb (refusal_in left) 0) (y_in left) y) calls)

-- ** No calls

pub no_calls_add_nothing : NoCallsAddNothing
unfolding read_list history seen
no_calls_add_nothing s = record { reads = refl; history_is = refl; seen_is = refl }

-- ** One call before others

pub every_draw_adds : EveryDrawAdds
unfolding Linked read_list history seen left_by event_of
every_draw_adds s d calls = record {
  reads = ap (λ (l : List ℕ). l ++ read_list (draw_left s d).drawn.session calls) (draw_wrote s d).filled;
  served = λ h. rw (eq-eqb _ 0 h);
  refused = λ h. rw (ne_eqb _ 0 h);
  links_served = λ h linked. ((λ g. refl), rw (eq-eqb _ 0 h) linked);
  links_refused = λ h y linked. ((λ g. absurd (h g)), rw (ne_eqb _ 0 h) linked);
  seen_first = refl;
}

-- the bit of the answer is the rule's
respond_bit : (s : Session) (r : Respond) → let left = respond_left s r in left.responded.answer.refusal ≡ 0
    → bit_of_respond s r ≡ left.responded.answer.bit
unfolding respond_served responded_by
respond_bit s r h = rw ((respond_left_lem s r).where_served h)

pub every_respond_adds : EveryRespondAdds
unfolding Linked read_list history seen left_by event_of
every_respond_adds s r calls = record {
  reads = ap (λ (l : List ℕ). l ++ read_list (respond_left s r).responded.session calls) (respond_wrote s r).filled;
  served = λ h. rw (eq-eqb _ 0 h, respond_bit s r h);
  refused = λ h. rw (ne_eqb _ 0 h);
  links_served = λ h linked. ((λ g. refl), rw (eq-eqb _ 0 h) linked);
  links_refused = λ h y linked. ((λ g. absurd (h g)), rw (ne_eqb _ 0 h) linked);
  seen_first = refl;
}
