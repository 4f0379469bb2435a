-- The numbers of base samples and attempts, computed. Assumes nothing.
use mathlib.Core.Path.{refl}
use Rattle.known_points.specs.SampleNumbers.{thresholds_of, SampleNumbers}
use Rattle.known_points.proofs.Computing.{lists}

pub sample_numbers : SampleNumbers
unfolding lists thresholds_of
sample_numbers = record {
  ten_thresholds = refl;
  noise_bound_lem = refl;
}
