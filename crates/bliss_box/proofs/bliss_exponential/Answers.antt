-- `bliss_box::bliss_exponential` meets its contract, which is that of the call. Assumes nothing.
use Rattle.bliss_box.proofs.bliss_exponential.Goals as goal

pub returns : goal.returns
returns c = c.exp_or_refusal.ensures
