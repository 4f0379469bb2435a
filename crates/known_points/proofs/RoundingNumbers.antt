-- The numbers of the rounding, computed. Assumes nothing.
use mathlib.Core.Path.{refl}
use Rattle.known_points.specs.RoundingNumbers.{RoundingNumbers}
use Rattle.known_points.proofs.Computing.{tables, exponentials, responses}

pub rounding_numbers : RoundingNumbers
unfolding tables exponentials responses
rounding_numbers = record {
  quarter = refl;
  nine_sixteenths = refl;
  below_half = refl;
  above_half = refl;
  one = refl;
  below_one = refl;
  exp_1 = refl;
  exp_513 = refl;
  exp_46225 = refl;
  exp_92450 = refl;
  exp_6120 = refl;
  exp_1552 = refl;
  cosh_below = refl;
  cosh_above = refl;
}
