-- `bliss_box::bliss_draw` meets its contract, which is that of the call. Assumes nothing.
use Rattle.bliss_box.proofs.bliss_draw.Goals as goal

pub returns : goal.returns
returns c = c.draw.ensures
