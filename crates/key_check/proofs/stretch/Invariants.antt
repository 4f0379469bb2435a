use lib.ListN.{length}
use Rattle.key_check.proofs.Stretches.{Summed}
use Rattle.key_check.proofs.stretch.Given as goal

abbrev pub invariant-loop-x : goal.invariant-loop-x
invariant-loop-x l = Summed l.a l.b l.sum (length l.yielded)
