-- Tables in both orders, computed. Assumes nothing.
use mathlib.Core.Path.{refl}
use Rattle.known_points.specs.WordOrder.{even_before_from, even_before, WordOrder}
use Rattle.known_points.proofs.Computing.{tables, refusals, attempts, lists, orders}

pub word_order : WordOrder
unfolding tables refusals attempts lists orders even_before_from even_before
word_order = record {
  even_reordered = refl;
  even_served_before = refl;
  even_refused = refl;
  default_served_before = refl;
  default_refused = refl;
  both_served_before = refl;
  both_served = refl;
  base_sample_before_lem = refl;
  base_sample_now = refl;
}
