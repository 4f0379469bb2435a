-- The refusals of draws, computed. Assumes nothing.
use mathlib.Core.Path.{refl}
use Rattle.known_points.specs.DrawRefusals.{DrawRefusals}
use Rattle.known_points.proofs.Computing.{tables, refusals}

pub draw_refusals : DrawRefusals
unfolding tables refusals
draw_refusals = record {
  refusal_2 = refl;
  refusal_3 = refl;
  refusal_4 = refl;
  refusal_5 = refl;
  refusal_7 = refl;
  refusal_8 = refl;
  refusal_2_y = refl;
  refusal_3_high = refl;
  refusal_3_falls = refl;
  equal_thresholds = refl;
  refusal_16 = refl;
  draws_in_order = refl;
  served_8 = refl;
  served_128 = refl;
  refused_129 = refl;
  served_107 = refl;
  served_250 = refl;
  served_271 = refl;
}
