-- Two calls from one session that agree on the first one's entries give and leave the same. Assumes nothing.
use mathlib.Core.Path.{◌≡◌, sym, ◌∙◌}
use Prim.Native.Nat.{◌*◌, ◌^◌, ◌≤◌}
use native.Mathlib.Omega.{arith}
use Rattle.checks.proofs.Degrees.{degree_range}
use Rattle.read_list.specs.Agreement.{Agree}
use Rattle.sampler.specs.Draw.{draw_y, draw_entries, sampled_by}
use Rattle.sampler.proofs.Agreement.{same_bits, same_y}
use Rattle.response.specs.Response.{respond_entries, responded_by}
use Rattle.response.proofs.Agreement.{same_z, same_bit}
use Rattle.session.specs.declared.Session.{Session}
use Rattle.session.specs.Calls.{Draw, bits_of_draw, draw_served, draw_left, Respond, bit_of_respond, z_of_respond, respond_served, respond_left}
use Rattle.histories.specs.Histories.{Call, draw, respond, left_by, refusal_in, next_in, y_in, lent_y, event_of, render_event}
use Rattle.histories.specs.Demand3.{Alike, lent, seen_in}
use Rattle.session.proofs.Calls.{draw_left_lem, draw_passed, respond_left_lem, respond_passed}

-- what two calls give and leave alike
pub record SameCall (s : Session) (c c' : Call) : Type 0 where
  pub event_same : event_of s c ≡ event_of s c'
  pub seen_same : seen_in (left_by s c) ≡ seen_in (left_by s c')
  pub next_same : next_in (left_by s c) ≡ next_in (left_by s c')
  pub y_same : y_in (left_by s c) ≡ y_in (left_by s c')

-- ** Two draws of one limit

module _ (s : Session) (d d' : Draw)
    (served : (draw_left s d).drawn.answer.refusal ≡ 0) (served' : (draw_left s d').drawn.answer.refusal ≡ 0)
    (limits : d.limit ≡ d'.limit)
    (same : Agree (lent (draw d)) (lent (draw d')) (draw_entries s.degree (bits_of_draw s d))) where
  -- a draw that is served is lent the polynomial table
  draw_tables : d.polynomial ≡ d'.polynomial
  draw_tables = (draw_passed s d served).is_polynomial_lem ∙ sym (draw_passed s d' served').is_polynomial_lem

  limit_small : 4 * d.limit ≤ 2 ^ 24
  limit_small =
      let passed = draw_passed s d served in
      omega (arith, passed.limit_high, (degree_range s.degree passed.degree).1)

  bits_same : bits_of_draw s d ≡ bits_of_draw s d'
  unfolding bits_of_draw
  bits_same = same_bits _ s.degree d.limit (2 * s.degree) limit_small same ∙ rw (draw_tables, limits)

  samples_same : draw_y d.cdt d.words (2 * s.degree) (bits_of_draw s d) ≡ draw_y d'.cdt d'.words (2 * s.degree) (bits_of_draw s d')
  unfolding bits_of_draw
  samples_same = same_y _ s.degree d.limit (2 * s.degree) limit_small same ∙ rw (draw_tables, limits)

  same_draws : SameCall s (draw d) (draw d')
  unfolding left_by event_of draw_served sampled_by
  same_draws = record {
    event_same = rw bits_same;
    seen_same = rw ((draw_left_lem s d).where_served served, (draw_left_lem s d').where_served served', samples_same, bits_same);
    next_same = rw ((draw_left_lem s d).where_served served, (draw_left_lem s d').where_served served', bits_same);
    y_same = rw ((draw_left_lem s d).where_served served, (draw_left_lem s d').where_served served') samples_same;
  }

-- ** Two responds to one challenge, over one y

module _ (s : Session) (r r' : Respond)
    (served : (respond_left s r).responded.answer.refusal ≡ 0) (served' : (respond_left s r').responded.answer.refusal ≡ 0)
    (challenges : r.challenge ≡ r'.challenge) (ys : r.y ≡ r'.y)
    (same : Agree (lent (respond r)) (lent (respond r')) (respond_entries s.degree (bit_of_respond s r) r.challenge)) where
  respond_tables : r.polynomial ≡ r'.polynomial
  respond_tables = (respond_passed s r served).is_polynomial_lem ∙ sym (respond_passed s r' served').is_polynomial_lem

  degree_small : s.degree ≤ 1024
  degree_small = (degree_range s.degree (respond_passed s r served).degree).1

  bit_same : bit_of_respond s r ≡ bit_of_respond s r'
  unfolding bit_of_respond
  bit_same =
      same_bit s.degree (bit_of_respond s r) r.challenge degree_small same _ r.y
      ∙ rw (respond_tables, challenges, ys)

  z_same : z_of_respond s r ≡ z_of_respond s r'
  unfolding z_of_respond
  z_same = same_z s.degree (bit_of_respond s r) r.challenge degree_small same r.y ∙ rw (challenges, ys)

  same_responds : SameCall s (respond r) (respond r')
  unfolding left_by event_of respond_served responded_by
  same_responds = record {
    event_same = rw (bit_same, challenges);
    seen_same = rw ((respond_left_lem s r).where_served served, (respond_left_lem s r').where_served served', bit_same, z_same, challenges);
    next_same = rw ((respond_left_lem s r).where_served served, (respond_left_lem s r').where_served served');
    y_same = rw ((respond_left_lem s r).where_served served, (respond_left_lem s r').where_served served');
  }

-- ** Two calls that are alike

-- where y is drawn both are lent the same y
pub same_calls : (s : Session) (c c' : Call) → refusal_in (left_by s c) ≡ 0 → refusal_in (left_by s c') ≡ 0 → Alike c c'
    → (s.drawn ≡ 1 → lent_y c ≡ lent_y c') → Agree (lent c) (lent c') (render_event (event_of s c)) → SameCall s c c'
unfolding left_by event_of render_event
same_calls s (draw d) (draw d') h h' alike ys same = same_draws s d d' h h' alike same
same_calls s (draw d) (respond r) h h' alike ys same = absurd alike
same_calls s (respond r) (draw d) h h' alike ys same = absurd alike
same_calls s (respond r) (respond r') h h' alike ys same =
    same_responds s r r' h h' alike (ys (respond_passed s r h).is_drawn) same
