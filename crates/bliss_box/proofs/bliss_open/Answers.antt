-- `bliss_box::bliss_open` meets its contract, which is that of the call. Assumes nothing.
use Rattle.bliss_box.proofs.bliss_open.Goals as goal

pub returns : goal.returns
returns c = c.open.ensures
