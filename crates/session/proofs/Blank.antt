-- Request S-5, as the caller sees it. Assumes nothing.
use mathlib.Core.Path.{◌≡◌, ap, ◌∙◌}
use mathlib.Core.Bool.{true}
use mathlib.Core.List.{[]}
use mathlib.Core.Logic.{◌↔◌}
use Prim.Native.Nat.{◌^◌}
use lib.ListN.{length, get_or}
use Rattle.lists.proofs.AtTheStart.{take_written}
use Rattle.exponential.specs.Exponential.{exp}
use Rattle.exponential.proofs.Table.{exp_of_none}
use Rattle.response.specs.Response.{respond_entries, responded_by}
use Rattle.response.specs.Blank.{BlankPasses, blank_entries}
use Rattle.response.proofs.Blank.{blank_z, blank_bit, blank_list, blank_count}
use Rattle.refusals.proofs.FirstRefusal.{blank_refuses}
use Rattle.refusals.proofs.AsBefore.{refused_as_before}
use Rattle.session.specs.declared.Session.{Session}
use Rattle.session.specs.Calls.{Respond, refusal_of_respond, bit_of_respond, z_of_respond, respond_served, respond_left}
use Rattle.session.specs.Blank.{BlankRefusesFirst, BlankResponse, AnsweredAsBefore}
use Rattle.session.proofs.Calls.{respond_left_lem, respond_passed, respond_fits}
use Rattle.session.proofs.ByRule.{exp_over}

-- ** The empty challenge

pub blank_refuses_first : BlankRefusesFirst
unfolding refusal_of_respond
blank_refuses_first s r none =
    rw ((respond_left_lem s r).number_is, none)
    (blank_refuses s.degree s.drawn r.polynomial (length r.words) r.key r.y (length r.z) (length r.list) s.deviation)

exp_0 : exp 0 ≡ 2 ^ 62
unfolding exp
exp_0 = exp_of_none _

module _ (s : Session) (r : Respond) (none : r.challenge ≡ []) (h : (respond_left s r).responded.answer.refusal ≡ 0) where
  z_is_y : z_of_respond s r ≡ r.y
  unfolding z_of_respond
  z_is_y = rw none (blank_z r.key s.degree r.y r.words (respond_passed s r h).y_both)

  bit_by_y : (bit_of_respond s r ≡ true) ↔ BlankPasses exp s.degree r.y (get_or r.words 1 0)
  unfolding bit_of_respond
  bit_by_y =
      let p = respond_passed s r h in
      rw (none, exp_over r.polynomial p.is_polynomial_lem) (blank_bit exp exp_0 r.key s.degree r.y r.words p.y_both)

  entries_are : respond_entries s.degree (bit_of_respond s r) r.challenge ≡ blank_entries s.degree (bit_of_respond s r)
  entries_are = let b = bit_of_respond s r in ap (respond_entries s.degree b) none ∙ blank_list s.degree b

  entry_count : length (respond_entries s.degree (bit_of_respond s r) r.challenge) ≡ 47
  entry_count = rw entries_are (blank_count s.degree (bit_of_respond s r))

pub blank_response : BlankResponse
unfolding respond_served responded_by
blank_response s r none h =
    let written = take_written r.list _ (respond_fits s r h) ∙ entries_are s r none h in
    rw ((respond_left_lem s r).where_served h) (record {
      z = λ e. rw e (z_is_y s r none h);
      bit = bit_by_y s r none h;
      entries = entry_count s r none h;
      listed = rw (entry_count s r none h) at written;
    })

-- ** All other challenges

pub answered_as_before : AnsweredAsBefore
unfolding respond_left refusal_of_respond
answered_as_before s r some = rw (refused_as_before _ _ _ r.challenge _ _ _ _ _ _ some)
