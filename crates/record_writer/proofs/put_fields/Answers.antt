-- `record_writer::put_fields` meets its contract: the parts of the record, one after the other. Assumes nothing.
use native.Mathlib.Omega.{arith}
use mathlib.Core.Path.{◌≡◌, ap, ◌∙◌}
use mathlib.Core.Bool.{Bool}
use mathlib.Core.List.{List}
use Prim.Native.Nat.{ℕ, ◌+◌}
use lib.IntN.{ℤ}
use lib.ListN.{length}
use Rattle.bits.specs.Bits.{put_bits}
use Rattle.bits.specs.Items.{joined}
use Rattle.bits.proofs.Putting.{length_put}
use Rattle.record.specs.Record.{value_bits}
use Rattle.record_writer.specs.Told.{field_set}
use Rattle.record_writer.proofs.WriteLaws.{known, a_bits, fields_length, fields_put}
use Rattle.record_writer.proofs.put_fields.Goals as goal
use Rattle.record_writer.proofs.put_fields.Goals.{After-put_values-z2_place}

-- a page keeps its length where bits are put into it
kept : (page : List ℕ) (place : ℕ) (bits : List Bool) {after : List ℕ} → after ≡ put_bits page place bits → length after ≡ length page
kept page place bits e = ap length e ∙ length_put page place bits

-- the place behind z1
behind_z1 : (c : After-put_values-z2_place) → c.put_values-z2_place.result ≡ c.put_challenge-z1_place.result + length (a_bits (field_set c.args.told.now))
behind_z1 c =
    c.put_values-z2_place.ensures.0
    ∙ ap (λ (z : List ℤ). c.put_challenge-z1_place.result + length (joined value_bits z)) c.told_values.ensures

-- ** What the code asks for

pub put_header-requires : goal.put_header-requires
put_header-requires c =
    let set = field_set c.args.told.now in
    let parts = fields_length set in
    ((known set c.requires.field_set).degree, omega (arith, parts))

pub put_challenge-z1_place-requires : goal.put_challenge-z1_place-requires
put_challenge-z1_place-requires c =
    let set = field_set c.args.told.now in
    let parts = fields_length set in
    record {
      few = (known set c.requires.field_set).few;
      in_bounds = omega (arith, parts, kept _ _ _ c.put_header.ensures);
    }

pub put_values-z2_place-requires : goal.put_values-z2_place-requires
put_values-z2_place-requires c =
    let set = field_set c.args.told.now in
    let parts = fields_length set in
    let k = known set c.requires.field_set in
    let place = c.put_challenge-z1_place.ensures.0 in
    let long = kept _ _ _ c.put_challenge-z1_place.ensures.1 ∙ kept _ _ _ c.put_header.ensures in
    rw c.told_values.ensures record {
      small = (k.z1_right, k.z1_short);
      in_bounds = (omega (arith, place, k.c_most), omega (arith, place, parts, long));
    }

pub put_values-requires : goal.put_values-requires
put_values-requires c =
    let set = field_set c.args.told.now in
    let parts = fields_length set in
    let k = known set c.requires.field_set in
    let z1_start = c.put_challenge-z1_place.ensures.0 in
    let z1_end = behind_z1 (goal.at.put_values-requires c).After-put_values-z2_place in
    let long = kept _ _ _ c.put_values-z2_place.ensures.1 ∙ kept _ _ _ c.put_challenge-z1_place.ensures.1 ∙ kept _ _ _ c.put_header.ensures in
    rw c.told_values-2.ensures record {
      small = (k.z2_right, k.z2_short);
      in_bounds = (omega (arith, z1_start, z1_end, k.c_most, k.a_most), omega (arith, z1_start, z1_end, parts, long));
    }

pub returns : goal.returns
returns c =
    fields_put (field_set c.args.told.now) c.args.page.now
    c.put_header.ensures c.put_challenge-z1_place.ensures.1 c.put_challenge-z1_place.ensures.0
    (c.put_values-z2_place.ensures.1 ∙ ap (λ (z : List ℤ). put_bits c.put_challenge-z1_place.new.page c.put_challenge-z1_place.result (joined value_bits z)) c.told_values.ensures)
    (behind_z1 (goal.at.returns c).After-put_values-z2_place)
    (c.put_values.ensures.1 ∙ ap (λ (z : List ℤ). put_bits c.put_values-z2_place.new.page c.put_values-z2_place.result (joined value_bits z)) c.told_values-2.ensures)
