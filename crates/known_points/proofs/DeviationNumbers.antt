-- The numbers of the deviations, computed. Assumes nothing.
use mathlib.Core.Path.{refl}
use Rattle.known_points.specs.DeviationNumbers.{DeviationNumbers}
use Rattle.known_points.proofs.Computing.{tables, exponentials, attempts}

pub deviation_numbers : DeviationNumbers
unfolding tables exponentials attempts
deviation_numbers = record {
  divisor_107 = refl;
  divisor_215 = refl;
  divisor_250 = refl;
  divisor_271 = refl;
  reciprocal_107 = refl;
  reciprocal_215 = refl;
  reciprocal_250 = refl;
  reciprocal_271 = refl;
  exp_107 = refl;
  exp_215 = refl;
  exp_250 = refl;
  exp_271 = refl;
  exp_last = refl;
  exp_none = refl;
  below_107 = refl;
  at_107 = refl;
  below_271 = refl;
  at_271 = refl;
}
