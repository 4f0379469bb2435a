-- `record_writer::write_told` meets its contract: refused it leaves the output, and else it has the record. Assumes nothing.
use mathlib.Core.Path.{sym}
use Rattle.std.proofs.lemmas.Result.{err_from_is_err_and}
use Rattle.record_writer.proofs.WriteAnswers.{left_refused, left_served}
use Rattle.record_writer.proofs.write_told.Goals as goal

pub returns-in_err-length : goal.returns-in_err-length
returns-in_err-length c =
    let e = err_from_is_err_and c.from_residual.result c.from_residual.ensures.1 in
    rw (e.1, e.2) (left_refused _ _ _ c.in_err-length.ensures.refusal)

pub returns : goal.returns
returns c =
    let e = c.in_ok-length.ensures in
    left_served _ _ (sym e.refusal) c.write_over.ensures e.length.0 e.length.1
