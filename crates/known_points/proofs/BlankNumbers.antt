-- Request S-5 in numbers, computed. Assumes nothing.
use mathlib.Core.Path.{refl}
use Rattle.known_points.specs.BlankNumbers.{BlankNumbers}
use Rattle.known_points.proofs.Computing.{whole_calls, key_checks, records, lists}

pub blank_numbers : BlankNumbers
unfolding whole_calls key_checks records lists
blank_numbers = record {
  served_47 = refl;
  refused_46 = refl;
  refused_before = refl;
  key_of_7 = refl;
  key_with_8 = refl;
  blanks_in_order = refl;
  plus = refl;
  minus = refl;
  another_key = refl;
  how_many_entries = refl;
  blank_list = refl;
  word_1_below = refl;
  word_1_at = refl;
  largest_z = refl;
  larger_z = refl;
  coefficient_2101 = refl;
  key_check_of_none = refl;
  written_with_none = refl;
  read_with_none = refl;
}
