-- `session::Session::responded_served` meets its contract. Assumes nothing.
use Rattle.session.proofs.Session.responded_served.Goals as goal

pub returns : goal.returns
returns c = rw c.fresh.ensures
