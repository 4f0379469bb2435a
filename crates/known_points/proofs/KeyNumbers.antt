-- The numbers of the key check, computed. Assumes nothing.
use mathlib.Core.Path.{refl}
use Rattle.known_points.specs.KeyNumbers.{KeyNumbers}
use Rattle.known_points.proofs.Computing.{refusals, key_checks}

pub key_numbers : KeyNumbers
unfolding refusals key_checks
key_numbers = record {
  largest_2 = refl;
  largest_3 = refl;
  largest_5 = refl;
  largest_negative = refl;
  rotation_1 = refl;
  row_0 = refl;
  row_1 = refl;
  row_2 = refl;
  row_3 = refl;
  row_sums_3 = refl;
  row_sums_4 = refl;
  sum_1 = refl;
  sum_2 = refl;
  sum_3 = refl;
  sum_4 = refl;
  row_sum_negative = refl;
  zero_key = refl;
  at_limit_lem = refl;
  over_limit_lem = refl;
  over_refused = refl;
  lengths = refl;
  keys_in_order = refl;
}
