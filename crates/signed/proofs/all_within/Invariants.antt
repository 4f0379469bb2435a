use mathlib.Core.Path.{◌≡◌}
use mathlib.Core.Bool.{not, ◌&&◌}
use lib.ListN.{drop}
use Rattle.signed.specs.Vectors.{all_within}
use Rattle.signed.proofs.all_within.Given as goal

abbrev pub invariant-loop-v : goal.invariant-loop-v
invariant-loop-v l = (not l.outside && all_within l.bound (drop l.v-index l.values)) ≡ all_within l.bound l.values
