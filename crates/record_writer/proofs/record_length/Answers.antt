-- `record_writer::record_length` meets its contract: the parts of the record, added. Assumes nothing.
use native.Mathlib.Omega.{arith}
use mathlib.Core.Path.{◌≡◌, sym, ap, ◌∙◌}
use mathlib.Core.List.{List}
use Prim.Native.Nat.{◌+◌, ◌≤◌}
use lib.IntN.{ℤ}
use lib.ListN.{length}
use Rattle.bits.specs.Bits.{bytes_for}
use Rattle.bits.specs.Items.{joined}
use Rattle.bits.proofs.Packing.{length_packed}
use Rattle.record.specs.Record.{value_bits, field_bits, record_of}
use Rattle.record_writer.specs.Told.{field_set}
use Rattle.record_writer.proofs.WriteLaws.{known, a_bits, b_bits, fields_length}
use Rattle.record_writer.proofs.record_length.Goals as goal
use Rattle.record_writer.proofs.record_length.Goals.{After-values_length-z2_length}

-- ** Behind the lengths

module _ (c : After-values_length-z2_length) where
  z1_is : c.values_length-z1_length.result ≡ length (a_bits (field_set c.args.told.now))
  z1_is = c.values_length-z1_length.ensures ∙ ap (λ (z : List ℤ). length (joined value_bits z)) c.told_values.ensures

  z2_is : c.values_length-z2_length.result ≡ length (b_bits (field_set c.args.told.now))
  z2_is = c.values_length-z2_length.ensures ∙ ap (λ (z : List ℤ). length (joined value_bits z)) c.told_values-2.ensures

  long : 24 + c.challenge_length-header.result + c.values_length-z1_length.result + c.values_length-z2_length.result ≤ 70688
  long =
      let k = known (field_set c.args.told.now) c.requires in
      omega (arith, c.challenge_length-header.ensures.1, z1_is, z2_is, k.a_most, k.b_most)

-- ** What the code asks for

pub challenge_length-header-requires : goal.challenge_length-header-requires
challenge_length-header-requires c = (known (field_set c.args.told.now) c.requires).few

pub values_length-z1_length-requires : goal.values_length-z1_length-requires
values_length-z1_length-requires c =
    let k = known (field_set c.args.told.now) c.requires in
    rw c.told_values.ensures (k.z1_right, k.z1_short)

pub values_length-z2_length-requires : goal.values_length-z2_length-requires
values_length-z2_length-requires c =
    let k = known (field_set c.args.told.now) c.requires in
    rw c.told_values-2.ensures (k.z2_right, k.z2_short)

pub overflow_add-result : goal.overflow_add-result
overflow_add-result c = omega (arith, long (goal.at.overflow_add-result c).After-values_length-z2_length)

pub overflow_add-result-2 : goal.overflow_add-result-2
overflow_add-result-2 c = omega (arith, long (goal.at.overflow_add-result-2 c).After-values_length-z2_length)

pub overflow_add-result-3 : goal.overflow_add-result-3
overflow_add-result-3 c = omega (arith, long (goal.at.overflow_add-result-3 c).After-values_length-z2_length)

pub returns : goal.returns
unfolding record_of
returns c =
    let here = (goal.at.returns c).After-values_length-z2_length in
    let parts = fields_length (field_set c.args.told.now) in
    ap bytes_for (omega (arith, c.challenge_length-header.ensures.0, z1_is here, z2_is here, parts))
    ∙ sym (length_packed (field_bits (field_set c.args.told.now)))
