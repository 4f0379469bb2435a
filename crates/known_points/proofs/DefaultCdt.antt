-- The CDT tables that hosts lend, computed. Assumes nothing.
use mathlib.Core.Path.{refl}
use Rattle.known_points.specs.DefaultCdt.{by_its_weight, DefaultCdts}
use Rattle.known_points.proofs.Computing.{tables, refusals, exponentials, attempts}

pub default_cdts : DefaultCdts
unfolding tables refusals exponentials attempts by_its_weight
default_cdts = record {
  at_107 = record { served = refl; weights = refl; above = refl };
  at_215 = record { served = refl; weights = refl; above = refl };
  at_250 = record { served = refl; weights = refl; above = refl };
  at_271 = record { served = refl; weights = refl; above = refl };
  largest_at_107 = refl;
  next_at_107 = refl;
}
