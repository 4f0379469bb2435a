-- The refusals of openings, computed. Assumes nothing.
use mathlib.Core.Path.{refl}
use Rattle.known_points.specs.OpeningRefusals.{openings, openings_at, OpeningRefusals}
use Rattle.known_points.proofs.Computing.{refusals, whole_calls}

pub opening_refusals : OpeningRefusals
unfolding refusals whole_calls openings openings_at
opening_refusals = record {
  refusal_1 = refl;
  degrees_served = refl;
  below_degrees_refused = refl;
  above_degrees_refused = refl;
  other_powers_refused = refl;
  deviations_served = refl;
  below_deviations_refused = refl;
  above_deviations_refused = refl;
  low_bits_refused = refl;
  degree_first = refl;
  opened_at_107 = refl;
  opened_at_108 = refl;
  opened_of_12 = refl;
}
