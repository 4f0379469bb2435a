-- `arithmetic::less` meets its contract: the order of numbers of two digits. Assumes nothing.
use Rattle.std.proofs.Common.{rules}
use Rattle.arithmetic.proofs.Order.{digits_order}
use Rattle.arithmetic.proofs.less.Goals as goal

pub returns : goal.returns
returns g c = search (rules, digits_order)
