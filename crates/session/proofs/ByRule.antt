-- Each call by the words of document 01 and requests S-2 and S-8. Assumes nothing.
use mathlib.Core.Path.{◌≡◌, refl, sym, ◌∙◌}
use mathlib.Core.Bool.{true}
use mathlib.Core.List.{List}
use mathlib.Core.Logic.{◌↔◌}
use Prim.Native.Nat.{ℕ, ◌*◌}
use lib.ListN.{length, get_or}
use Rattle.lists.proofs.AtTheStart.{take_written}
use Rattle.exponential.specs.Exponential.{polynomial, exp_with, divisor_at, divisor, exp}
use Rattle.deviations.specs.Deviations.{exp_at}
use Rattle.attempt.specs.Attempt.{bit_at}
use Rattle.sampler.specs.Draw.{sampled_by, Stops}
use Rattle.sampler.proofs.DrawStops.{draw_stops}
use Rattle.sampler.proofs.DrawOrder.{samples_in_order, draw_lists}
use Rattle.sampler.proofs.DrawTells.{length_draw_entries}
use Rattle.challenge_product.specs.Product.{product}
use Rattle.challenge_product.proofs.InOrder.{product_halves}
use Rattle.response.specs.Response.{responded_by}
use Rattle.response.specs.ByRule.{PlusOrMinus, AllTestsPass}
use Rattle.response.proofs.ByRule.{response_plus_or_minus, plus_or_minus_one, bit_by_tests, respond_lists}
use Rattle.refusals.proofs.FirstRefusal.{opening_refuses, draw_refuses, respond_refuses}
use Rattle.session.specs.declared.Session.{Session}
use Rattle.session.specs.Calls.{opened, Draw, refusal_of_draw, bits_of_draw, draw_served}
use Rattle.session.specs.Calls.{Respond, refusal_of_respond, bit_of_respond, z_of_respond, respond_served, respond_left}
use Rattle.session.specs.ByRule.{OpeningRefusesFirst, DrawRefusesFirst, ServedDrawByRule, RespondRefusesFirst, ServedRespondByRule}
use Rattle.session.proofs.Calls.{draw_left_lem, draw_passed, draw_fits, respond_left_lem, respond_passed, respond_fits}

-- ** Refusals

pub opening_refuses_first : OpeningRefusesFirst
unfolding opened
opening_refuses_first n deviation = opening_refuses n deviation

pub draw_refuses_first : DrawRefusesFirst
unfolding refusal_of_draw
draw_refuses_first s d = rw (draw_left_lem s d).number_is (draw_refuses _ _ _ _ _ _ _ s.deviation)

pub respond_refuses_first : RespondRefusesFirst
unfolding refusal_of_respond
respond_refuses_first s r = rw (respond_left_lem s r).number_is (respond_refuses _ _ _ _ _ _ _ _ s.deviation _)

-- ** A draw that is served

-- e(N) over the table of a draw that is served
pub exp_at_over : (deviation : ℕ) (table : List ℕ) → table ≡ polynomial → exp_with table (divisor_at deviation) ≡ exp_at deviation
unfolding exp_at
exp_at_over deviation table h = rw h

bits_stop : (s : Session) (d : Draw) → d.polynomial ≡ polynomial
    → Stops (bit_at (exp_at s.deviation) d.cdt d.words) 0 d.limit (2 * s.degree) (bits_of_draw s d)
unfolding bits_of_draw
bits_stop s d h =
    rw (exp_at_over s.deviation d.polynomial h) (draw_stops (exp_at s.deviation) d.cdt d.words d.limit (2 * s.degree))

pub served_draw_by_rule : ServedDrawByRule
unfolding draw_served sampled_by
served_draw_by_rule s d h =
    rw ((draw_left_lem s d).where_served h) (let bits = bits_of_draw s d in record {
      stops = bits_stop s d (draw_passed s d h).is_polynomial_lem;
      attempts = refl;
      accepted_count = refl;
      entries = length_draw_entries s.degree bits;
      listed = rw (take_written d.list _ (draw_fits s d h)) (draw_lists s.degree bits);
      samples = samples_in_order d.cdt d.words (2 * s.degree) bits;
    })

-- ** A respond that is served

-- e(N) over its table
pub exp_over : (table : List ℕ) → table ≡ polynomial → exp_with table divisor ≡ exp
unfolding exp
exp_over table h = rw h

module _ (s : Session) (r : Respond) (h : (respond_left s r).responded.answer.refusal ≡ 0) where
  sc_as_long : length (product r.key s.degree r.challenge) ≡ length r.y
  sc_as_long = (product_halves r.key s.degree r.challenge).both ∙ sym (respond_passed s r h).y_both

  z_by_rule : PlusOrMinus (get_or r.words 0 0) r.y (product r.key s.degree r.challenge) (z_of_respond s r)
  unfolding z_of_respond
  z_by_rule = response_plus_or_minus r.y (product r.key s.degree r.challenge) r.words sc_as_long

  bit_by_rule : (bit_of_respond s r ≡ true) ↔ AllTestsPass exp s.degree (product r.key s.degree r.challenge) (z_of_respond s r) (get_or r.words 1 0) (get_or r.words 2 0)
  unfolding bit_of_respond z_of_respond
  bit_by_rule = rw (exp_over r.polynomial (respond_passed s r h).is_polynomial_lem) (bit_by_tests exp s.degree r.y (product r.key s.degree r.challenge) r.words)

pub served_respond_by_rule : ServedRespondByRule
unfolding respond_served responded_by
served_respond_by_rule s r h =
    rw ((respond_left_lem s r).where_served h) (let sc = product r.key s.degree r.challenge in record {
      bit = λ z p. rw (plus_or_minus_one (get_or r.words 0 0) r.y sc z (z_of_respond s r) p (z_by_rule s r h)) (bit_by_rule s r h);
      z = λ e. rw e (z_by_rule s r h);
      listed = rw (take_written r.list _ (respond_fits s r h)) (respond_lists s.degree (bit_of_respond s r) r.challenge);
    })
