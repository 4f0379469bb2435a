-- `record_reader::get_fields` meets its contract. Assumes nothing.
use native.Mathlib.Omega.{arith}
use mathlib.Core.Path.{◌≡◌, ap, ap₂, ◌∙◌}
use Prim.Native.Nat.{◌≤◌}
use lib.ListN.{length, take}
use lib.Seq.{length-take-le}
use Rattle.bits.specs.Bits.{bit_at}
use Rattle.bits.specs.Items.{items_at, behind, each_at}
use Rattle.record_reader.specs.declared.Contents.{Contents}
use Rattle.record.specs.Reading.{value_at, next_value, is_value, positions_at, z2_start, fields_of}
use Rattle.record_reader.specs.Call.{contents_of}
use Rattle.record_reader.proofs.ReadLaws.{Most, most, fits, lengths, written_over, positions_read, z1_read, z2_read, z2_start_read, are_values}
use Rattle.record_reader.proofs.get_fields.Goals as goal
use Rattle.record_reader.proofs.get_fields.Goals.{After-get_values-z2_start, Start}

-- ** What is known at the start, and behind z1

module _ (c : Start) where
  small : Most (bit_at c.args.bytes.now)
  small = most (bit_at c.args.bytes.now) c.requires.right.0

  room : let a = c.args in (a.contents.positions ≤ length a.challenge.now) × (a.contents.z1 ≤ length a.z1.now) × (a.contents.z2 ≤ length a.z2.now)
  room = let a = c.args in fits a.contents (length a.challenge.now) (length a.z1.now) (length a.z2.now) c.requires.room

  -- how long the parts are that are written
  positions : length (take c.args.contents.positions c.args.challenge.now) ≡ (contents_of (fields_of (bit_at c.args.bytes.now))).positions
  positions = length-take-le _ _ room.0 ∙ ap (λ (k : Contents). k.positions) c.requires.right.1

  z1 : length (take c.args.contents.z1 c.args.z1.now) ≡ (contents_of (fields_of (bit_at c.args.bytes.now))).z1
  z1 = length-take-le _ _ room.1 ∙ ap (λ (k : Contents). k.z1) c.requires.right.1

  z2 : length (take c.args.contents.z2 c.args.z2.now) ≡ (contents_of (fields_of (bit_at c.args.bytes.now))).z2
  z2 = length-take-le _ _ room.2 ∙ ap (λ (k : Contents). k.z2) c.requires.right.1

next_is : (c : After-get_values-z2_start) → c.get_values-z2_start.result ≡ z2_start (bit_at c.args.bytes.now)
next_is c =
    let a = c.args in
    let t = bit_at a.bytes.now in
    let count = length-take-le _ _ (fits a.contents (length a.challenge.now) (length a.z1.now) (length a.z2.now) c.requires.room).1 ∙ ap (λ (k : Contents). k.z1) c.requires.right.1 in
    c.get_values-z2_start.ensures.value ∙ ap₂ (behind (next_value t)) c.z1_start.ensures.0 count ∙ z2_start_read t

-- ** What the code asks for

pub get_positions-requires : goal.get_positions-requires
get_positions-requires c =
    let here = (goal.at.get_positions-requires c).Start in
    (omega arith, omega (arith, positions here, (small here).positions))

pub get_values-z2_start-requires : goal.get_values-z2_start-requires
get_values-z2_start-requires c =
    let here = (goal.at.get_values-z2_start-requires c).Start in
    let t = bit_at c.args.bytes.now in record {
      in_bounds = (omega (arith, c.z1_start.ensures.1), omega (arith, z1 here, (small here).z1));
      right = ap₂ (each_at (is_value t) (next_value t)) c.z1_start.ensures.0 (z1 here) ∙ (are_values t c.requires.right.0).0;
    }

pub get_values-requires : goal.get_values-requires
get_values-requires c =
    let here = (goal.at.get_values-requires c).Start in
    let next = next_is (goal.at.get_values-requires c).After-get_values-z2_start in
    let t = bit_at c.args.bytes.now in record {
      in_bounds = (omega (arith, next, (small here).z2_start_lem), omega (arith, z2 here, (small here).z2));
      right = ap₂ (each_at (is_value t) (next_value t)) next (z2 here) ∙ (are_values t c.requires.right.0).1;
    }

pub returns : goal.returns
returns c =
    let here = (goal.at.returns c).Start in
    let next = next_is (goal.at.returns c).After-get_values-z2_start in
    let t = bit_at c.args.bytes.now in
    let e = c.requires.right.1 in record {
      challenge_after = written_over _ _ (c.get_positions.ensures ∙ ap (positions_at t 32) (positions here) ∙ positions_read t)
          (ap (λ (k : Contents). k.positions) e ∙ (lengths t).0) (room here).0;
      z1_after = written_over _ _ (c.get_values-z2_start.ensures.z_after ∙ ap₂ (items_at (value_at t) (next_value t)) c.z1_start.ensures.0 (z1 here) ∙ z1_read t)
          (ap (λ (k : Contents). k.z1) e ∙ (lengths t).1) (room here).1;
      z2_after = written_over _ _ (c.get_values.ensures.z_after ∙ ap₂ (items_at (value_at t) (next_value t)) next (z2 here) ∙ z2_read t)
          (ap (λ (k : Contents). k.z2) e ∙ (lengths t).2) (room here).2;
    }
