use Prim.Native.Nat.{◌+◌, ◌*◌, ◌≤◌}
use Rattle.bits.proofs.Putting.{Putting}
use Rattle.record.specs.Record.{value_bits}
use Rattle.record_writer.proofs.put_values.Given as goal

abbrev pub invariant-loop-value : goal.invariant-loop-value
invariant-loop-value l = (l.place ≤ l.at + 34 * l.value-index) × Putting value_bits l.values l.initial.page l.at l.page l.place l.value-index
