-- What follows for every call, refused or served. Assumes nothing.
use mathlib.Core.Path.{◌≡◌, refl, sym, ap₂, ◌∙◌}
use mathlib.Core.Bool.{Bool, true, false, cond}
use mathlib.Core.List.{List, []}
use Prim.Native.Nat.{ℕ, ◌*◌}
use native.Mathlib.Omega.{arith}
use lib.Dec.{eqb}
use mir.Val.{bool_byte}
use borrow.Author.Tests.{eqb-true, eq-eqb, ne_eqb}
use Rattle.sampler.specs.Draw.{accepted, draw_y, sampled_by}
use Rattle.response.specs.Response.{responded_by}
use Rattle.response.proofs.RespondTells.{length_respond_entries}
use Rattle.refusals.specs.Refusals.{open_refusal}
use Rattle.session.specs.declared.Session.{Session}
use Rattle.session.specs.Calls.{fresh, opened, bits_of_draw, draw_refused, draw_served, draw_left, bit_of_respond, respond_refused, respond_served}
use Rattle.session.specs.Calls.{Respond, respond_left}
use Rattle.session.specs.CallLaws.{OpeningIsFresh, DrawCountsEntries, DrawKeepsDegree, DrawKeepsDeviation, RefusedDrawTouchesNothing, ServedDrawSetsDrawn}
use Rattle.session.specs.CallLaws.{RespondCountsEntries, RespondKeepsDegree, RespondKeepsDeviation, RefusedRespondTouchesNothing, ServedRespondSpendsNoise, RejectionsAlike}
use Rattle.session.proofs.Calls.{by_refusal, draw_left_lem, draw_entries_few, draw_wrote, respond_left_lem, respond_wrote}

-- ** An opening

pub opening_is_fresh : OpeningIsFresh
unfolding opened
opening_is_fresh n deviation = record {
  not_drawn = none_drawn (eqb (open_refusal n deviation) 0);
  served = λ h. rw (eq-eqb (open_refusal n deviation) 0 h) (refl, refl);
  refused = λ h. rw (ne_eqb (open_refusal n deviation) 0 h) (refl, refl);
}
  where
    none_drawn : (t : Bool) → (cond t (fresh n deviation) (fresh 0 0)).drawn ≡ 0
    none_drawn true = refl
    none_drawn false = refl

-- ** A draw

pub draw_counts_entries : DrawCountsEntries
unfolding draw_served draw_refused sampled_by
draw_counts_entries s d = (
  by_refusal (draw_left s d).drawn.answer.refusal
      (λ h. rw ((draw_left_lem s d).where_served h) (draw_entries_few s d))
      (λ h. rw ((draw_left_lem s d).where_refused h) (omega arith)),
  (draw_wrote s d).fits,
  (draw_wrote s d).rest,
)

pub draw_keeps_degree : DrawKeepsDegree
unfolding draw_served draw_refused
draw_keeps_degree s d =
    by_refusal (draw_left s d).drawn.answer.refusal (λ h. rw ((draw_left_lem s d).where_served h)) (λ h. rw ((draw_left_lem s d).where_refused h))

pub draw_keeps_deviation : DrawKeepsDeviation
unfolding draw_served draw_refused
draw_keeps_deviation s d =
    by_refusal (draw_left s d).drawn.answer.refusal (λ h. rw ((draw_left_lem s d).where_served h)) (λ h. rw ((draw_left_lem s d).where_refused h))

pub refused_draw_touches_nothing : RefusedDrawTouchesNothing
unfolding draw_refused
refused_draw_touches_nothing s d h =
    rw ((draw_left_lem s d).where_refused h) (record { session = refl; y = refl; list = refl; attempts = refl; accepted = refl; entries = refl })

pub served_draw_sets_drawn : ServedDrawSetsDrawn
unfolding draw_served sampled_by draw_y
served_draw_sets_drawn s d h =
    rw ((draw_left_lem s d).where_served h) (let count = accepted (bits_of_draw s d) in record {
      full = (λ e. eqb-true count (2 * s.degree) (is_one (eqb count (2 * s.degree)) e), λ e. rw (eq-eqb count (2 * s.degree) e));
      spent = λ differ. rw (ne_eqb count (2 * s.degree) differ) (refl, refl);
    })
  where
    is_one : (t : Bool) → bool_byte t ≡ 1 → t ≡ true
    is_one true e = refl
    is_one false e = absurd (omega (arith, e))

-- ** A respond

pub respond_counts_entries : RespondCountsEntries
unfolding respond_served responded_by
respond_counts_entries s r = (
  (λ h. rw ((respond_left_lem s r).where_served h) (length_respond_entries s.degree (bit_of_respond s r) r.challenge)),
  (respond_wrote s r).fits,
  (respond_wrote s r).rest,
)

pub respond_keeps_degree : RespondKeepsDegree
unfolding respond_served respond_refused
respond_keeps_degree s r =
    by_refusal (respond_left s r).responded.answer.refusal (λ h. rw ((respond_left_lem s r).where_served h)) (λ h. rw ((respond_left_lem s r).where_refused h))

pub respond_keeps_deviation : RespondKeepsDeviation
unfolding respond_served respond_refused
respond_keeps_deviation s r =
    by_refusal (respond_left s r).responded.answer.refusal (λ h. rw ((respond_left_lem s r).where_served h)) (λ h. rw ((respond_left_lem s r).where_refused h))

pub refused_respond_touches_nothing : RefusedRespondTouchesNothing
unfolding respond_refused
refused_respond_touches_nothing s r h =
    rw ((respond_left_lem s r).where_refused h) (record { session = refl; y = refl; z = refl; list = refl; bit = refl; entries = refl })

pub served_respond_spends_noise : ServedRespondSpendsNoise
unfolding respond_served responded_by
served_respond_spends_noise s r h =
    rw ((respond_left_lem s r).where_served h) (record { not_drawn = refl; y = refl; z = λ e. rw e })

-- a rejection, whatever z would have been
rejected : (s : Session) (r : Respond) → (respond_left s r).responded.answer.refusal ≡ 0 → (respond_left s r).responded.answer.bit ≡ false
    → respond_left s r ≡ respond_served s (responded_by s.degree false r.challenge [] r.list)
unfolding respond_served responded_by
rejected s r h b =
    let left = (respond_left_lem s r).where_served h in
    let bit : bit_of_respond s r ≡ false = rw left at b in
    left ∙ rw bit

pub rejections_alike : RejectionsAlike
rejections_alike s r r' h h' b b' challenges lists =
    rejected s r h b
    ∙ ap₂ (λ (c l : List ℕ). respond_served s (responded_by s.degree false c [] l)) challenges lists
    ∙ sym (rejected s r' h' b')
