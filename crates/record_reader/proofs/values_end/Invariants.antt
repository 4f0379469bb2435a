use Prim.Native.Nat.{◌+◌, ◌*◌, ◌≤◌}
use Rattle.bits.specs.Bits.{bit_at}
use Rattle.bits.proofs.Walking.{Walked, Passed}
use Rattle.record.specs.Reading.{next_value, is_value}
use Rattle.record_reader.proofs.values_end.Given as goal

abbrev pub invariant-loop : goal.invariant-loop
invariant-loop l =
    (l.place ≤ l.at + 35 * l.counter)
    × Walked (next_value (bit_at l.bytes)) l.at l.count l.place l.counter
    × Passed (next_value (bit_at l.bytes)) l.at l.count (is_value (bit_at l.bytes)) l.place l.counter
