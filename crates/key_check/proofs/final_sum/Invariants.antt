use Rattle.key_check.specs.KeyCheck.{row_sum}
use Rattle.key_check.specs.Rows.{Holds, row_sum_bound, HoldsRow}
use Rattle.key_check.proofs.final_sum.Given as goal

abbrev pub invariant-loop-sum : goal.invariant-loop-sum
invariant-loop-sum l = HoldsRow l.key l.n l.sum-index l.row × Holds (row_sum l.key l.n l.count) row_sum_bound l.sums l.sum-index
