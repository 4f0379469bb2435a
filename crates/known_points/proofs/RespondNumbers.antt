-- The numbers of responses, computed. Assumes nothing.
use mathlib.Core.Path.{refl}
use Rattle.known_points.specs.RespondNumbers.{RespondNumbers}
use Rattle.known_points.proofs.Computing.{sums}

pub respond_numbers : RespondNumbers
unfolding sums
respond_numbers = record {
  norm_limit_lem = refl;
  inner_of_both_signs = refl;
  squares_of_both_signs = refl;
}
