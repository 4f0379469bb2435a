-- `record_writer::put_header` meets its contract: the bit map, and n. Assumes nothing.
use mathlib.Core.Path.{◌∙◌}
use Rattle.record_writer.specs.Told.{field_set}
use Rattle.record_writer.proofs.WriteLaws.{stands_lent, header_put}
use Rattle.record_writer.proofs.put_header.Goals as goal

pub returns : goal.returns
returns c =
    let told = c.args.told.now in
    header_put c.args.page.now (field_set told)
    (c.is_some-challenge.ensures ∙ stands_lent told.challenge) (c.is_some-z1.ensures ∙ stands_lent told.z1) (c.is_some-z2.ensures ∙ stands_lent told.z2)
    c.put_byte.ensures c.put_two_bytes.ensures
