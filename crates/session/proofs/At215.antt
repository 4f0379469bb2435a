-- Request S-8, as the caller sees it: at deviation 215 every call answers what it did. Assumes nothing.
use mathlib.Core.Path.{ap, ◌∙◌, fun_ext, subst}
use Prim.Native.Nat.{ℕ}
use Rattle.deviations.specs.Deviations.{exp_at}
use Rattle.deviations.proofs.Deviations.{alone_at_215}
use Rattle.refusals.proofs.FirstRefusal.{opening_refuses_at_215, draw_refuses_at_215, respond_refuses_at_215}
use Rattle.session.specs.Calls.{opened, bits_of_draw, refusal_of_draw, draw_left, refusal_of_respond}
use Rattle.session.specs.ByRule.{DrawMade}
use Rattle.session.specs.At215.{OpeningRefusesAt215, DrawRefusesAt215, RespondRefusesAt215, ServedDrawAt215}
use Rattle.session.proofs.Calls.{draw_left_lem, respond_left_lem}
use Rattle.session.proofs.ByRule.{served_draw_by_rule}

-- ** Refusals

pub opening_at_215 : OpeningRefusesAt215
unfolding opened
opening_at_215 n = opening_refuses_at_215 n

pub draw_at_215 : DrawRefusesAt215
unfolding refusal_of_draw
draw_at_215 s d h = rw ((draw_left_lem s d).number_is, h) (draw_refuses_at_215 _ _ _ _ _ _ _)

pub respond_at_215 : RespondRefusesAt215
unfolding refusal_of_respond
respond_at_215 s r h = rw ((respond_left_lem s r).number_is, h) (respond_refuses_at_215 _ _ _ _ _ _ _ _ _)

-- ** A draw that is served

pub served_draw_at_215 : ServedDrawAt215
served_draw_at_215 s d h served =
    subst (λ (e : ℕ → ℕ). DrawMade e s d (draw_left s d) (bits_of_draw s d)) (ap exp_at h ∙ fun_ext alone_at_215) (served_draw_by_rule s d served)
