-- `deviations::is_deviation` meets its contract. Assumes nothing.
use Rattle.deviations.proofs.Deviations.{is_deviation_lem, not_deviation}
use Rattle.deviations.proofs.is_deviation.Goals as goal

pub returns-in-107 : goal.returns-in-107
returns-in-107 c = is_deviation_lem c.args.deviation c.in-107.is

pub returns-in_default : goal.returns-in_default
returns-in_default c = not_deviation c.args.deviation c.in_default.in_default-own.rest.1
