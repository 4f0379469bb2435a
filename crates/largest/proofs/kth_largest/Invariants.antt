use lib.ListN.{length}
use Rattle.largest.specs.Threshold.{value_at}
use Rattle.largest.proofs.Bracket.{Bracket}
use Rattle.largest.proofs.kth_largest.Given as goal

abbrev pub invariant-loop-bit : goal.invariant-loop-bit
invariant-loop-bit l = Bracket (value_at l.values) (length l.values) l.k l.t l.bit
