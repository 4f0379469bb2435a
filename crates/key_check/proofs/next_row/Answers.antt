-- `key_check::next_row` meets its contract: each value takes the place of the next, which is carried on. Assumes nothing.
use Rattle.std.proofs.Common.{arith, rules, get_or, pos}
use mir.Syntax.{w32}
use mir.Val.{SFits}
use Rattle.signed.proofs.Signs.{read_back}
use Rattle.key_check.proofs.MovingOn.{moving_more}
use Rattle.key_check.proofs.next_row.Goals as goal

pub loop-entry-preserved : goal.loop-entry-preserved
loop-entry-preserved c =
    let t = c.loop-entry in
    let fits : SFits w32 (get_or t.row t.entry-index (pos 0)) = search rules in
    moving_more c.args.row.now t.row _ _ t.entry-index t.invariant (omega arith) (read_back fits)
