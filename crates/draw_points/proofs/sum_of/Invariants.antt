-- The sum so far is a remainder, so that its product fits.
use Rattle.std.proofs.Common.{◌<◌}
use Rattle.draw_points.proofs.sum_of.Given as goal

abbrev pub invariant-loop-entry : goal.invariant-loop-entry
invariant-loop-entry l = l.sum < 2147483647
