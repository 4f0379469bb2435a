-- `exponential::square` meets its contract. Assumes nothing.
use native.Mathlib.Omega.{arith}
use Rattle.exponential.specs.Exponential.{squared}
use Rattle.exponential.proofs.Table.{squared_small}
use Rattle.exponential.proofs.square.Goals as goal

pub returns : goal.returns
unfolding squared
returns c = (c.square_round62.ensures, omega (arith, squared_small c.args.a c.requires))
