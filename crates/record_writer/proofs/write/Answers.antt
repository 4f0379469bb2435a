-- `record_writer::write` meets its contract: the fields that are told are those that the call tells. Assumes nothing.
use mathlib.Core.Path.{ap, ◌∙◌}
use Rattle.record.specs.Record.{FieldSet}
use Rattle.record_writer.specs.declared.Written.{Written}
use Rattle.record_writer.specs.Call.{after_write, write_left}
use Rattle.record_writer.proofs.WriteAnswers.{told_is}
use Rattle.record_writer.proofs.write.Goals as goal

pub returns : goal.returns
returns c =
    let a = c.args in
    ap (λ (w : Written). after_write w c.write_told.new.out) c.from.ensures
    ∙ c.write_told.ensures
    ∙ ap (λ (f : FieldSet). write_left f a.out.now) (told_is a.n a.fields a.challenge a.z1 a.z2 c.then_some.ensures c.then_some-2.ensures c.then_some-3.ensures)
