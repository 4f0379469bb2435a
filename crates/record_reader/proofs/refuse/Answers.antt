-- `record_reader::refuse` meets its contract. Assumes nothing.
use Rattle.record_reader.specs.Call.{no_contents}
use Rattle.record_reader.proofs.refuse.Goals as goal

pub returns : goal.returns
unfolding no_contents
returns c = rw c.number.ensures
