use mathlib.Core.Path.{◌≡◌}
use Prim.Native.Nat.{◌+◌}
use lib.ListN.{length}
use Rattle.largest.specs.Threshold.{value_at, sum_over, reaches}
use Rattle.largest.proofs.count_from.Given as goal

abbrev pub invariant-loop-value : goal.invariant-loop-value
invariant-loop-value l = l.count + l.value-index ≡ length l.values + sum_over (reaches l.t) (value_at l.values) l.value-index
