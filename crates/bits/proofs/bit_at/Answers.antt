-- `bits::bit_at` meets its contract. Assumes nothing.
use Rattle.bits.specs.Bits.{bit_at}
use Rattle.bits.proofs.bit_at.Goals as goal

pub returns : goal.returns
unfolding bit_at
returns c = rw c.byte_at.ensures
