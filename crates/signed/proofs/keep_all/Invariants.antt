use mathlib.Core.Path.{◌≡◌}
use mathlib.Core.Bool.{cond}
use mathlib.Core.List.{◌++◌}
use lib.IntN.{pos}
use lib.ListN.{replicate, drop}
use Rattle.signed.proofs.keep_all.Given as goal

abbrev pub invariant-loop-v : goal.invariant-loop-v
invariant-loop-v l = l.values ≡ cond l.keep l.initial.values (replicate l.v-index (pos 0) ++ drop l.v-index l.initial.values)
