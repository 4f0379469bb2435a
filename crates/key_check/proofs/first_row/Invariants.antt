use Rattle.key_check.specs.KeyCheck.{table}
use Rattle.key_check.specs.Rows.{Holds, entry_bound}
use Rattle.key_check.proofs.first_row.Given as goal

abbrev pub invariant-loop-j : goal.invariant-loop-j
invariant-loop-j l = Holds (table l.key l.n 0) entry_bound l.row l.j
