-- `record_reader::read_fields` meets its contract: refused it leaves the outputs, and else they have the fields. Assumes nothing.
use Rattle.std.proofs.lemmas.Result.{err_from_is_err_and}
use Rattle.record_reader.proofs.ReadLaws.{served, left_refused, left_served, have_fields}
use Rattle.record_reader.proofs.read_fields.Goals as goal

pub returns-in_err-contents : goal.returns-in_err-contents
returns-in_err-contents c =
    let e = err_from_is_err_and c.from_residual.result c.from_residual.ensures.1 in
    rw (e.1, e.2) (left_refused _ _ _ _ c.in_err-contents.ensures)

pub get_fields-requires : goal.get_fields-requires
get_fields-requires c =
    let s = served _ _ _ _ c.in_ok-contents.ensures in
    record { right = (have_fields _ s.is_record_lem, s.contents_is); room = s.room }

pub returns : goal.returns
returns c =
    let f = c.get_fields.ensures in
    left_served _ _ _ _ (served _ _ _ _ c.in_ok-contents.ensures) f.challenge_after f.z1_after f.z2_after
