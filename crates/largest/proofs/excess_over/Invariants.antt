use mathlib.Core.Path.{◌≡◌}
use lib.IntN.{pos}
use Rattle.largest.specs.Threshold.{value_at, sum_over, excess}
use Rattle.largest.proofs.excess_over.Given as goal

abbrev pub invariant-loop-value : goal.invariant-loop-value
invariant-loop-value l = l.sum ≡ pos (sum_over (excess l.t) (value_at l.values) l.value-index)
