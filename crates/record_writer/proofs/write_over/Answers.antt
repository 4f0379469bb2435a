-- `record_writer::write_over` meets its contract: the bits of the fields, put into zeros. Assumes nothing.
use native.Mathlib.Omega.{arith}
use mathlib.Core.Path.{◌≡◌, ap, ◌∙◌}
use mathlib.Core.List.{List}
use Prim.Native.Nat.{ℕ}
use lib.ListN.{length, replicate, length-replicate}
use Rattle.bits.specs.Bits.{bytes_for, put_bits}
use Rattle.bits.proofs.Packing.{length_packed}
use Rattle.bits.proofs.Putting.{put_packed}
use Rattle.record.specs.Record.{field_bits, record_of}
use Rattle.record_writer.specs.Told.{field_set}
use Rattle.record_writer.proofs.write_over.Goals as goal
use Rattle.record_writer.proofs.write_over.Goals.{After-fill}

-- the zeros that stand behind the filling
zeros : (c : After-fill) → c.fill.new.self ≡ replicate (bytes_for (length (field_bits (field_set c.args.told.now)))) 0
unfolding record_of
zeros c = c.fill.ensures.after (λ x e. e) ∙ ap (λ (k : ℕ). replicate k 0) (c.requires.whole ∙ length_packed _)

-- ** What the code asks for

pub put_fields-requires : goal.put_fields-requires
put_fields-requires c =
    let filled = ap length (zeros (goal.at.put_fields-requires c).After-fill) ∙ length-replicate {A = ℕ} _ 0 in
    record { field_set = c.requires.field_set; in_bounds = omega (arith, filled) }

pub returns : goal.returns
unfolding record_of
returns c =
    let bits = field_bits (field_set c.args.told.now) in
    c.put_fields.ensures ∙ ap (λ (l : List ℕ). put_bits l 0 bits) (zeros (goal.at.returns c).After-fill) ∙ put_packed bits
