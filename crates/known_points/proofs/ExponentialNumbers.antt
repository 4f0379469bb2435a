-- The numbers of the exponential, computed. Assumes nothing.
use mathlib.Core.Path.{refl}
use Rattle.known_points.specs.ExponentialNumbers.{ExponentialNumbers}
use Rattle.known_points.proofs.Computing.{tables, exponentials}

pub exponential_numbers : ExponentialNumbers
unfolding tables exponentials
exponential_numbers = record {
  entries_21 = refl;
  entry_0 = refl;
  entry_1 = refl;
  entry_19 = refl;
  entry_20 = refl;
  entries_are = refl;
  divisor_by_64 = refl;
  twice_215_squared = refl;
  refusal_12 = refl;
}
