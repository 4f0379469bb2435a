-- `checks::is_degree` meets its contract. Assumes nothing.
use Rattle.checks.proofs.Degrees.{is_degree_lem, not_degree}
use Rattle.checks.proofs.is_degree.Goals as goal

pub returns-in-4 : goal.returns-in-4
returns-in-4 c = is_degree_lem c.args.n c.in-4.is

pub returns-in_default : goal.returns-in_default
returns-in_default c = not_degree c.args.n c.in_default.in_default-own.rest.1
