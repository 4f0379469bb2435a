-- `record_writer::values_length` meets its contract: each turn leaves the lengths of the values that follow to be added. Assumes nothing.
use native.Mathlib.Omega.{arith}
use mathlib.Core.Path.{ap, ◌∙◌}
use Prim.Native.Nat.{◌<◌}
use lib.IntN.{pos, nat_abs}
use lib.ListN.{length, get_or}
use Rattle.bits.proofs.Putting.{forms_length, no_forms_left}
use Rattle.record.specs.Record.{value_bits}
use Rattle.record.specs.Lengths.{packed_length}
use Rattle.record.proofs.Lengths.{packed_value}
use Rattle.record_writer.proofs.WriteLaws.{value_small, value_read}
use Rattle.record_writer.proofs.values_length.Goals as goal

pub loop-value-preserved : goal.loop-value-preserved
loop-value-preserved c =
    let values = c.args.values.now in
    let i = c.loop-value.value-index in
    let value = get_or values i (pos 0) in
    let size = c.unsigned_abs.ensures.value ∙ ap nat_abs (value_read values c.requires.0 i) in
    -- the packed length of the value is that of its form
    let form = c.packed_length.ensures ∙ ap packed_length size ∙ packed_value value (value_small values c.requires.0 i) in
    let l : i < length values = omega arith in
    (omega arith, omega (arith, form, forms_length value_bits values (pos 0) i l, c.loop-value.invariant.1))

pub returns : goal.returns
returns c =
    let t = c.loop-value in
    omega (arith, t.invariant.1, no_forms_left value_bits c.args.values.now t.value-index (omega arith))
