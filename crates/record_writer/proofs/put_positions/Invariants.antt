use Prim.Native.Nat.{◌+◌, ◌*◌}
use Rattle.bits.specs.Bits.{digits}
use Rattle.bits.proofs.Putting.{Putting}
use Rattle.record_writer.proofs.put_positions.Given as goal

abbrev pub invariant-loop-i : goal.invariant-loop-i
invariant-loop-i l = Putting (digits 16) l.challenge l.initial.page (8 * l.k) l.page (8 * (l.k + 2 * l.i)) l.i
