-- `session::Session::respond` meets its contract, refused or served. Assumes nothing.
use borrow.Author.Tests.{eq-eqb, ne_eqb}
use mathlib.Core.Path.{◌≡◌, sym}
use Prim.Native.Nat.{ℕ}
use lib.Dec.{lit<}
use Rattle.checks.proofs.Degrees.{degree_range}
use Rattle.exponential.specs.Exponential.{exp_scaled}
use Rattle.exponential.proofs.Table.{by_215}
use Rattle.challenge_product.specs.Product.{product}
use Rattle.response.specs.Response.{response_bit, Response, responded_by}
use native.Mathlib.Omega.{arith}
use Rattle.refused.proofs.Refusals.{number_pos}
use Rattle.refusals.proofs.Served.{respond_served_lem}
use Rattle.session.specs.declared.Session.{Session}
use Rattle.session.specs.declared.Responded.{Responded}
use Rattle.session.specs.Calls.{Respond, after_respond, refusal_of_respond, bit_of_respond, z_of_respond}
use Rattle.session.specs.Calls.{responded_refused, responded_served, respond_refused, respond_served, respond_left}
use Rattle.session.proofs.Session.respond.Goals as goal

-- ** Refused

refused_leaves : (s : Session) (r : Respond) (refusal : ℕ) (responded : Responded) → refusal ≡ refusal_of_respond s r → (refusal ≡ 0 → ⊥)
    → responded ≡ responded_refused refusal s → after_respond responded r.y r.z r.list ≡ respond_left s r
unfolding respond_left respond_refused
refused_leaves s r refusal responded e h made = rw (made, ← e, ne_eqb refusal 0 h)

pub returns-in-Err : goal.returns-in-Err
unfolding refusal_of_respond
returns-in-Err c =
    refused_leaves _ _ _ _ c.in-Err.ensures (λ e. absurd (omega (arith, e, number_pos c.in-Err.refusal))) c.responded_refused.ensures

-- ** Served

pub invariant_of-exponential : goal.invariant_of-exponential
invariant_of-exponential c =
    record { is_polynomial = (respond_served_lem _ c.args.self.deviation _ _ _ _ _ _ _ _ (sym c.in-Ok.ensures)).is_polynomial_lem }

pub invariant_of-factors : goal.invariant_of-factors
invariant_of-factors c =
    let k = respond_served_lem _ c.args.self.deviation _ _ _ _ _ _ _ _ (sym c.in-Ok.ensures) in
    record {
      low = (degree_range _ k.degree).1;
      both = k.key_both;
      small = k.key_small;
      few = k.positions.few;
      below = k.positions.below;
    }

pub respond-answer-requires : goal.respond-answer-requires
respond-answer-requires c =
    let k = respond_served_lem _ c.args.self.deviation _ _ _ _ _ _ _ _ (sym c.in-Ok.ensures) in
    (lit< tt, k.words_enough, k.y_both, k.y_small, k.z_both, k.list_enough)

response_leaves : (s : Session) (r : Respond) (response : Response) (responded : Responded) → refusal_of_respond s r ≡ 0
    → responded ≡ responded_served s response.answer
    → response ≡ responded_by s.degree
    (response_bit (exp_scaled r.polynomial 3269134179596076729) s.degree r.y (product r.key s.degree r.challenge) r.words)
    r.challenge (z_of_respond s r) r.list
    → after_respond responded response.y response.z response.list ≡ respond_left s r
unfolding respond_left respond_served bit_of_respond
response_leaves s r response responded h made e = rw (made, e, by_215 r.polynomial, eq-eqb (refusal_of_respond s r) 0 h)

pub returns-in-Ok : goal.returns-in-Ok
unfolding refusal_of_respond z_of_respond
returns-in-Ok c =
    response_leaves _ _ _ _ (sym c.in-Ok.ensures) c.responded_served.ensures c.respond-answer.ensures
