-- `key_check::first_row` meets its contract: before turn j its first j entries are held. Assumes nothing.
use Rattle.std.proofs.Common.{arith, ◌≡◌, length, ◌+ℤ◌}
use mir.Syntax.{w32}
use mir.Val.{SFits}
use Rattle.signed.proofs.Signs.{read_back}
use Rattle.key_check.specs.KeyCheck.{table}
use Rattle.key_check.specs.Rows.{entry_bound}
use Rattle.key_check.proofs.RowsHeld.{holds_more, entry_is, entry_small}
use Rattle.key_check.proofs.first_row.Goals as goal

pub loop-j-preserved : goal.loop-j-preserved
loop-j-preserved c =
    let key = c.args.key.now in
    let n = length c.args.row.now in
    let t = c.loop-j in
    let one = c.half_inner-first in
    let two = c.half_inner-second in
    let one_fits : SFits w32 one.result = record { sfits = one.type_inv } in
    let two_fits : SFits w32 two.result = record { sfits = two.type_inv } in
    let all_fits : SFits w32 c.plus.result = record { sfits = c.plus.type_inv } in
    let sum : c.plus.result ≡ one.result +ℤ two.result = rw (read_back one_fits, read_back two_fits) at c.plus.ensures in
    rw (read_back all_fits, sum)
    (holds_more (table key n 0) entry_bound t.row _ t.j t.invariant (omega arith)
    (entry_is key n t.j one.result two.result one.ensures.0 two.ensures.0)
    (entry_small key n one.result two.result one.ensures.1 two.ensures.1 c.requires.0.most))
