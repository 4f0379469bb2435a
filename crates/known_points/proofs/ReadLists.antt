-- The read lists, computed. Assumes nothing.
use mathlib.Core.Path.{refl}
use Rattle.known_points.specs.ReadLists.{ReadLists}
use Rattle.known_points.proofs.Computing.{lists}

pub read_lists : ReadLists
unfolding lists
read_lists = record {
  filled_part_lem = refl;
  filled_whole = refl;
  filled_over = refl;
  entry_is = refl;
  draw_list = refl;
  second_words = refl;
  second_end = refl;
  respond_list = refl;
  respond_list_of_two = refl;
  rejected_end = refl;
}
