-- `bliss_box::bliss_filled` meets its contract. Assumes nothing.
use mathlib.Core.Path.{ap}
use lib.ListN.{length}
use Rattle.bliss_box.proofs.bliss_filled.Goals as goal

pub returns : goal.returns
returns c = ap length c.filled.ensures.part
