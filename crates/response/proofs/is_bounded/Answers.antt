-- `response::is_bounded` meets its contract. Assumes nothing.
use mathlib.Core.Path.{sym}
use lib.Seq.{length-take-le}
use Rattle.response.specs.Response.{is_bounded}
use Rattle.response.proofs.is_bounded.Goals as goal

pub slice_bounds-all_within-end : goal.slice_bounds-all_within-end
slice_bounds-all_within-end c = sym (length-take-le _ _ c.requires)

pub returns : goal.returns
unfolding is_bounded
returns c = c.all_within.ensures
