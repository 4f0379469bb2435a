-- `record_reader::contents_of` meets its contract. Assumes nothing.
use native.Mathlib.Omega.{arith}
use mathlib.Core.Path.{ap, ap₂, ◌∙◌}
use mathlib.Core.Bool.{Bool}
use Rattle.bits.specs.Bits.{bit_at}
use Rattle.bits.proofs.Numbers.{number_below}
use Rattle.record.specs.Reading.{count_if}
use Rattle.record_reader.proofs.Fields.{contents_are}
use Rattle.record_reader.proofs.contents_of.Goals as goal

pub overflow_cast-map : goal.overflow_cast-map
overflow_cast-map c =
    let a = c.args in
    omega (arith, c.number_at-map.ensures, number_below (bit_at a.bytes.now) 5 3)

pub returns : goal.returns
returns c =
    contents_are
    (record {
      map_is = c.number_at-map.ensures;
      degree = c.number_at-degree.ensures;
      positions_is = c.count_if-positions.ensures ∙ ap₂ count_if c.bit_at.ensures c.number_at.ensures;
      z1_is = c.count_if-z1.ensures ∙ ap (λ (b : Bool). count_if b c.number_at-degree.result) c.bit_at-2.ensures;
      z2_is = c.count_if-z2.ensures ∙ ap (λ (b : Bool). count_if b c.number_at-degree.result) c.bit_at-3.ensures;
    })
