-- `record_reader::z1_start` meets its contract. Assumes nothing.
use native.Mathlib.Omega.{arith}
use mathlib.Core.Path.{sym, ◌∙◌}
use Prim.Native.Nat.{◌^◌, ◌<◌}
use Rattle.bits.specs.Bits.{bit_at}
use Rattle.bits.proofs.Numbers.{number_below}
use Rattle.record.specs.Reading.{z1_start}
use Rattle.record_reader.proofs.z1_start.Goals as goal
use Rattle.record_reader.proofs.z1_start.Goals.{After-number_at}

count : (c : After-number_at) → c.number_at.result < 2 ^ 8
count c = rw c.number_at.ensures (number_below (bit_at c.args.bytes.now) 24 8)

pub overflow_mul-result : goal.overflow_mul-result
overflow_mul-result c = omega (arith, count (goal.at.overflow_mul-result c).After-number_at)

pub overflow_add-result : goal.overflow_add-result
overflow_add-result c = omega (arith, count (goal.at.overflow_add-result c).After-number_at)

pub returns-then-bit_at : goal.returns-then-bit_at
unfolding z1_start
returns-then-bit_at c =
    let s = bit_at c.args.bytes.now in
    (rw (sym c.bit_at.ensures ∙ c.if-bit_at.true, c.number_at.ensures), omega (arith, number_below s 24 8, c.number_at.ensures))

pub returns-else-bit_at : goal.returns-else-bit_at
unfolding z1_start
returns-else-bit_at c = (rw (sym c.bit_at.ensures ∙ c.if-bit_at.false), omega arith)
