-- `record_writer::put_positions` meets its contract: each turn leaves the positions that follow to be put. Assumes nothing.
use native.Mathlib.Omega.{arith}
use Prim.Native.Nat.{◌<◌}
use lib.ListN.{length, get_or}
use Rattle.bits.specs.Bits.{digits}
use Rattle.bits.proofs.Streams.{length_digits}
use Rattle.bits.proofs.Putting.{putting_step, putting_end}
use Rattle.record_writer.proofs.put_positions.Goals as goal

pub loop-i-preserved : goal.loop-i-preserved
loop-i-preserved c =
    let a = c.args in
    let i = c.loop-i.i in
    let l : i < length a.challenge.now = omega arith in
    putting_step (digits 16) _ _ _ 0 l c.put_two_bytes.ensures (omega (arith, length_digits 16 (get_or a.challenge.now i 0))) c.loop-i.invariant

pub returns : goal.returns
returns c = (putting_end (digits 16) _ _ _ (omega arith) c.loop-i.invariant).1
