use Rattle.key_check.proofs.MovingOn.{Moving}
use Rattle.key_check.proofs.next_row.Given as goal

abbrev pub invariant-loop-entry : goal.invariant-loop-entry
invariant-loop-entry l = Moving l.initial.row l.row l.carried l.entry-index
