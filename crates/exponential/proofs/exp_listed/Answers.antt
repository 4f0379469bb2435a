-- `exponential::exp_listed` meets its contract. Assumes nothing.
use Rattle.exponential.proofs.Steps.{exp_in_steps}
use Rattle.exponential.proofs.exp_listed.Goals as goal

-- ** What the code asks for

pub returns : goal.returns
returns c =
    let a = c.args in
    let value = c.evaluate-a.ensures in
    let power = c.power64.ensures in
    (exp_in_steps a.table.now a.reciprocal a.n c.mul_shift22-v.ensures value.0 power.0, power.1, value.2)
