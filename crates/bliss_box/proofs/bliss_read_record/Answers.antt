-- `bliss_box::bliss_read_record` meets its contract, which is that of the call. Assumes nothing.
use Rattle.bliss_box.proofs.bliss_read_record.Goals as goal

pub returns : goal.returns
returns c = c.read.ensures
