-- The refusals of responds, computed. Assumes nothing.
use mathlib.Core.Path.{refl}
use Rattle.known_points.specs.RespondRefusals.{RespondRefusals}
use Rattle.known_points.proofs.Computing.{tables, refusals}

pub respond_refusals : RespondRefusals
unfolding tables refusals
respond_refusals = record {
  refusal_6 = refl;
  refusal_9 = refl;
  refusal_10 = refl;
  refusal_11 = refl;
  respond_2_y = refl;
  respond_2_z = refl;
  respond_2_key = refl;
  refusal_6_position = refl;
  refusal_9_by_2 = refl;
  refusal_9_by_257 = refl;
  refusal_9_by_the_largest = refl;
  refusal_16 = refl;
  refusal_17_107 = refl;
  refusal_17_250 = refl;
  refusal_17_271 = refl;
  responds_in_order = refl;
  served_55 = refl;
  refused_54 = refl;
}
