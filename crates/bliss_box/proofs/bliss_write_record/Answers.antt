-- `bliss_box::bliss_write_record` meets its contract, which is that of the call. Assumes nothing.
use Rattle.bliss_box.proofs.bliss_write_record.Goals as goal

pub returns : goal.returns
returns c = c.write.ensures
