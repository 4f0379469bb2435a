-- The numbers of records, computed. Assumes nothing.
use mathlib.Core.Path.{refl}
use Rattle.known_points.specs.RecordNumbers.{RecordNumbers}
use Rattle.known_points.proofs.Computing.{refusals, records}

pub record_numbers : RecordNumbers
unfolding refusals records
record_numbers = record {
  zero_bits = refl;
  one_bits = refl;
  minus_two_bits = refl;
  bits_of_127 = refl;
  bits_of_128 = refl;
  bits_of_3263 = refl;
  how_many_lengths = refl;
  packed_lengths_lem = refl;
  no_length = refl;
  no_field = refl;
  degree_4 = refl;
  a_challenge = refl;
  z1_alone = refl;
  z2_alone = refl;
  both_halves = refl;
  a_signature = refl;
  pads = refl;
  largest_values = refl;
  read_no_field = refl;
  read_signature = refl;
  read_3263 = refl;
  no_byte = refl;
  minus_zero = refl;
  size_3264 = refl;
  zeros_26 = refl;
  one_in_padding = refl;
  byte_more = refl;
  byte_less = refl;
  other_bits_of_map = refl;
  degree_12 = refl;
  half_of_n = refl;
  no_position = refl;
  five_positions = refl;
  equal_positions = refl;
  position_4 = refl;
  position_256 = refl;
  written = refl;
  untold = refl;
  too_short = refl;
  limits = refl;
  smallest = refl;
  writes_in_order = refl;
  read = refl;
  reads_in_order = refl;
  largest_response = refl;
  longest_records = refl;
}
