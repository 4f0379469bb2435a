use lib.ListN.{length}
use Prim.Native.Nat.{◌+◌, ◌*◌, ◌≤◌}
use Rattle.bits.specs.Bits.{bit_at}
use Rattle.bits.proofs.Walking.{Walked, Passed, Written}
use Rattle.record.specs.Reading.{value_at, next_value, is_value}
use Rattle.record_reader.proofs.get_values.Given as goal

abbrev pub invariant-loop-x : goal.invariant-loop-x
invariant-loop-x l =
    (l.place ≤ l.at + 35 * l.x-index)
    × Walked (next_value (bit_at l.bytes)) l.at (length l.initial.z) l.place l.x-index
    × Passed (next_value (bit_at l.bytes)) l.at (length l.initial.z) (is_value (bit_at l.bytes)) l.place l.x-index
    × Written (next_value (bit_at l.bytes)) l.at (length l.initial.z) (value_at (bit_at l.bytes)) l.initial.z l.z l.place l.x-index
