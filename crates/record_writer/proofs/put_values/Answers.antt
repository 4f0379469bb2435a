-- `record_writer::put_values` meets its contract: each turn leaves the values that follow to be put. Assumes nothing.
use native.Mathlib.Omega.{arith}
use Prim.Native.Nat.{◌≤◌, ◌<◌}
use lib.IntN.{ℤ, pos, nat_abs}
use lib.ListN.{length, get_or}
use Rattle.bits.proofs.Putting.{putting_step, putting_end, forms_length}
use Rattle.record.specs.Record.{value_limit, value_bits}
use Rattle.record.proofs.FieldSets.{length_value}
use Rattle.record_writer.proofs.WriteLaws.{value_small, value_read}
use Rattle.record_writer.proofs.put_values.Goals as goal
use Rattle.record_writer.proofs.put_values.Goals.{At-loop-value}

-- ** The value of a turn

module _ (c : At-loop-value) where
  abbrev value : ℤ
  value = get_or c.args.values.now c.loop-value.value-index (pos 0)

  small : nat_abs value ≤ value_limit
  small = value_small c.args.values.now c.requires.small.0 c.loop-value.value-index

-- ** What the code asks for

pub put_value-place-requires : goal.put_value-place-requires
put_value-place-requires c =
    let l : c.loop-value.value-index < length c.args.values.now = omega arith in
    rw (value_read c.args.values.now c.requires.small.0 c.loop-value.value-index) (
      small (goal.at.put_value-place-requires c).At-loop-value,
      omega (arith, c.loop-value.invariant.0, c.requires),
      omega (arith, c.loop-value.invariant.1.ends, c.loop-value.invariant.1.long, forms_length value_bits c.args.values.now (pos 0) c.loop-value.value-index l, c.requires.in_bounds.1),
    )

pub loop-value-preserved : goal.loop-value-preserved
loop-value-preserved c =
    let here = (goal.at.loop-value-preserved c).At-loop-value in
    let l : c.loop-value.value-index < length c.args.values.now = omega arith in
    let e = rw (value_read c.args.values.now c.requires.small.0 c.loop-value.value-index) at c.put_value-place.ensures in (
      omega (arith, e.0, length_value (value here), small here, c.loop-value.invariant.0),
      putting_step value_bits _ _ _ (pos 0) l e.1 e.0 c.loop-value.invariant.1,
    )

pub returns : goal.returns
returns c = putting_end value_bits _ _ _ (omega arith) c.loop-value.invariant.1
