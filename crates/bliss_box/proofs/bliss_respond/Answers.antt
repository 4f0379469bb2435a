-- `bliss_box::bliss_respond` meets its contract, which is that of the call. Assumes nothing.
use Rattle.bliss_box.proofs.bliss_respond.Goals as goal

pub returns : goal.returns
returns c = c.respond.ensures
