-- `record_reader::contents_to_read` meets its contract: bytes that are no record, too little room, or the contents. Assumes nothing.
use mathlib.Core.Path.{◌≡◌, sym, ap, ◌∙◌}
use mathlib.Core.Bool.{true}
use borrow.Author.Tests.{not-true, not-false}
use Rattle.checks.proofs.JoinedTests.{holds, fails}
use Rattle.record.specs.Reading.{is_record}
use Rattle.record_reader.specs.declared.Contents.{Contents}
use Rattle.record_reader.specs.Call.{have_room}
use Rattle.record_reader.specs.Checked.{to_read}
use Rattle.record_reader.proofs.ReadLaws.{no_room}
use Rattle.record_reader.proofs.contents_to_read.Goals as goal
use Rattle.record_reader.proofs.contents_to_read.Goals.{Else-not-is_record}

is_record_lem : (c : Else-not-is_record) → is_record c.args.bytes.now ≡ true
is_record_lem c = holds c.is_record.ensures c.if-not-is_record.false

pub returns-then-not-is_record : goal.returns-then-not-is_record
unfolding to_read
returns-then-not-is_record c = rw (fails c.is_record.ensures c.if-not-is_record.true)

pub returns-then-challenge-contents : goal.returns-then-challenge-contents
unfolding to_read
returns-then-challenge-contents c =
    let a = c.args in
    let f = not-true _ (sym (no_room c.contents_of-contents.result _ _ _) ∙ c.if-challenge-contents.true) in
    let e = ap (λ (x : Contents). have_room x a.challenge a.z1 a.z2) (sym c.contents_of-contents.ensures) in
    rw (is_record_lem (goal.at.returns-then-challenge-contents c).Else-not-is_record, e ∙ f)

pub returns : goal.returns
unfolding to_read
returns c =
    let a = c.args in
    let f = not-false _ (sym (no_room c.contents_of-contents.result _ _ _) ∙ c.if-challenge-contents.false) in
    let e = ap (λ (x : Contents). have_room x a.challenge a.z1 a.z2) (sym c.contents_of-contents.ensures) in
    rw (is_record_lem (goal.at.returns c).Else-not-is_record, e ∙ f, c.contents_of-contents.ensures)
