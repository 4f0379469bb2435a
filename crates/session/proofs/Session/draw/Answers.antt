-- `session::Session::draw` meets its contract, refused or served. Assumes nothing.
use borrow.Author.Tests.{eq-eqb, ne_eqb}
use mathlib.Core.Path.{◌≡◌, sym}
use Prim.Native.Nat.{ℕ, ◌*◌}
use native.Mathlib.Omega.{arith}
use Rattle.checks.proofs.Degrees.{degree_range}
use Rattle.exponential.specs.Exponential.{reciprocal, exp_scaled, exp_with, divisor_at}
use Rattle.deviations.proofs.Deviations.{scales_at}
use Rattle.sampler.specs.Draw.{draw_bits, Sampled, sampled_by}
use Rattle.refused.proofs.Refusals.{number_pos}
use Rattle.refusals.proofs.Served.{draw_served_lem}
use Rattle.session.specs.declared.Session.{Session}
use Rattle.session.specs.declared.Drawn.{Drawn}
use Rattle.session.specs.Calls.{Draw, after_draw, refusal_of_draw, bits_of_draw, drawn_refused, drawn_served, draw_refused}
use Rattle.session.specs.Calls.{draw_served, draw_left}
use Rattle.session.proofs.Session.draw.Goals as goal

-- ** Refused

refused_leaves : (s : Session) (d : Draw) (refusal : ℕ) (drawn : Drawn) → refusal ≡ refusal_of_draw s d → (refusal ≡ 0 → ⊥)
    → drawn ≡ drawn_refused refusal s → after_draw drawn d.y d.list ≡ draw_left s d
unfolding draw_left draw_refused
refused_leaves s d refusal drawn e h made = rw (made, ← e, ne_eqb refusal 0 h)

pub returns-in-Err : goal.returns-in-Err
unfolding refusal_of_draw
returns-in-Err c =
    refused_leaves _ _ _ _ c.in-Err.ensures (λ e. absurd (omega (arith, e, number_pos c.in-Err.refusal))) c.drawn_refused.ensures

-- ** Served

pub reciprocal_at-requires : goal.reciprocal_at-requires
reciprocal_at-requires c = (draw_served_lem _ _ _ _ _ _ _ _ (sym c.in-Ok.ensures)).has_deviation

pub invariant_of-cdt : goal.invariant_of-cdt
invariant_of-cdt c =
    let k = draw_served_lem _ _ _ _ _ _ _ _ (sym c.in-Ok.ensures) in
    record { twenty = k.twenty; small = k.small }

pub invariant_of-exponential : goal.invariant_of-exponential
invariant_of-exponential c =
    record { is_polynomial = (draw_served_lem _ _ _ _ _ _ _ _ (sym c.in-Ok.ensures)).is_polynomial_lem }

pub invariant_of-tables : goal.invariant_of-tables
invariant_of-tables c = record { scales = rw c.reciprocal_at.ensures (scales_at _ (draw_served_lem _ _ _ _ _ _ _ _ (sym c.in-Ok.ensures)).has_deviation) }

pub draw-counts-requires : goal.draw-counts-requires
draw-counts-requires c =
    let k = draw_served_lem _ _ _ _ _ _ _ _ (sym c.in-Ok.ensures) in
    let n = (degree_range _ k.degree).1 in
    (omega (arith, n), omega (arith, n, k.limit_high), k.words_enough, k.both, k.list_enough)

pub drawn_served-requires : goal.drawn_served-requires
drawn_served-requires c = (degree_range _ (draw_served_lem _ _ _ _ _ _ _ _ (sym c.in-Ok.ensures)).degree).1

sampled_leaves : (s : Session) (d : Draw) (r : ℕ) (sampled : Sampled) (drawn : Drawn) → refusal_of_draw s d ≡ 0
    → drawn ≡ drawn_served s sampled.counts
    → sampled ≡ sampled_by s.degree d.cdt d.words
    (draw_bits (exp_scaled d.polynomial r) d.cdt d.words d.limit (2 * s.degree)) d.list
    → r ≡ reciprocal (divisor_at s.deviation)
    → after_draw drawn sampled.y sampled.list ≡ draw_left s d
unfolding draw_left draw_served bits_of_draw exp_with
sampled_leaves s d r sampled drawn h made e is_reciprocal = rw (made, e, is_reciprocal, eq-eqb (refusal_of_draw s d) 0 h)

pub returns-in-Ok : goal.returns-in-Ok
unfolding refusal_of_draw
returns-in-Ok c =
    sampled_leaves _ _ _ _ _ (sym c.in-Ok.ensures) c.drawn_served.ensures c.draw-counts.ensures
    c.reciprocal_at.ensures
