-- Request S-6, as the caller sees it. Assumes nothing.
use mathlib.Core.Path.{◌≡◌, refl, ap, ◌∙◌, fun_ext, subst}
use mathlib.Core.List.{List}
use Prim.Native.Nat.{ℕ, ◌*◌}
use native.Mathlib.Omega.{arith}
use lib.ListN.{length}
use borrow.Author.Tests.{eq-eqb, ne_eqb}
use Rattle.base_sample.specs.BaseSample.{base_sample}
use Rattle.base_sample.specs.HighWordsFirst.{base_sample_before, reordered}
use Rattle.base_sample.proofs.Reordering.{length_reordered, reordered_alike}
use Rattle.attempt.specs.Attempt.{bit_at, sample_at}
use Rattle.sampler.specs.Draw.{accepted, draw_bits, draw_y, sampled_by}
use Rattle.sampler.proofs.DrawTells.{length_draw_entries}
use Rattle.refusals.proofs.AsBefore.{reordered_as_before}
use Rattle.session.specs.declared.Session.{Session}
use Rattle.session.specs.Calls.{Draw, refusal_of_draw, bits_of_draw, draw_served, draw_left, drawn_served}
use Rattle.session.specs.HighWordsFirst.{DrawRefusedAsBefore, DrawnBy, DrawnAsBefore}
use Rattle.session.proofs.Calls.{draw_left_lem, draw_passed}
use Rattle.session.proofs.ByRule.{exp_at_over}

-- ** Refusals

pub draw_refused_as_before : DrawRefusedAsBefore
unfolding refusal_of_draw
draw_refused_as_before s d table is_reordered =
    (draw_left_lem s d).number_is
    ∙ rw is_reordered (reordered_as_before s.degree s.deviation d.limit table d.polynomial (length d.words) (length d.y) (length d.list))

-- ** A draw that is served

-- by the base samples of its own table
drawn_by : (s : Session) (d : Draw) → (draw_left s d).drawn.answer.refusal ≡ 0
    → DrawnBy (base_sample d.cdt) s d (draw_left s d) (bits_of_draw s d)
unfolding draw_served sampled_by draw_y bits_of_draw draw_bits bit_at sample_at
drawn_by s d h =
    rw ((draw_left_lem s d).where_served h) (record {
      bits_by = rw (exp_at_over s.deviation d.polynomial (draw_passed s d h).is_polynomial_lem);
      drawn = ap (λ (n : ℕ). drawn_served s (record { attempts = length (bits_of_draw s d); accepted = accepted (bits_of_draw s d); entries = n })) (length_draw_entries s.degree (bits_of_draw s d));
      full = λ e. rw (eq-eqb (accepted (bits_of_draw s d)) (2 * s.degree) e);
      spent = λ h. rw (ne_eqb (accepted (bits_of_draw s d)) (2 * s.degree) (λ e. omega (arith, h, e)));
      list = refl;
    })

-- those of a reordering are those of document 01's order with the table
same_base_samples : (table : List ℕ) → length table ≡ 20 → base_sample (reordered table) ≡ base_sample_before table
same_base_samples table twenty = fun_ext (reordered_alike table twenty).base_samples

pub drawn_as_before : DrawnAsBefore
drawn_as_before s d table is_reordered h =
    let twenty : length table ≡ 20 = omega (arith, ap length is_reordered, length_reordered table, (draw_passed s d h).twenty) in
    subst (λ (x : ℕ → ℕ). DrawnBy x s d (draw_left s d) (bits_of_draw s d)) (ap base_sample is_reordered ∙ same_base_samples table twenty)
    (drawn_by s d h)
