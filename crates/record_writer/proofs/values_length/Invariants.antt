use mathlib.Core.Path.{◌≡◌}
use Prim.Native.Nat.{◌+◌, ◌*◌, ◌≤◌}
use lib.ListN.{length}
use Rattle.bits.specs.Items.{joined}
use Rattle.bits.proofs.Putting.{forms_from}
use Rattle.record.specs.Record.{value_bits}
use Rattle.record_writer.proofs.values_length.Given as goal

abbrev pub invariant-loop-value : goal.invariant-loop-value
invariant-loop-value l = (l.sum ≤ 255 * l.value-index) × (l.sum + length (forms_from value_bits l.values l.value-index) ≡ length (joined value_bits l.values))
