-- What the code of the reader goes by: what its tests give. Assumes nothing.
use Rattle.std.specs.Prelude.{cond, List, ℕ, Result, Ok, Err}
use Rattle.bits.specs.Bits.{bit_at}
use Rattle.record.specs.Reading.{fields_of, is_record}
use Rattle.refused.specs.declared.Refusal.{Refusal}
use Rattle.refused.specs.declared.Refusal.TheVariants.{Output, Record}
use Rattle.refused.specs.Refusals.{number}
use Rattle.record_reader.specs.declared.Contents.{Contents}
use Rattle.record_reader.specs.Call.{contents_of, no_contents, have_room}

-- the contents of a record that is read to outputs of these lengths, or a refusal
unfoldable pub to_read : (bytes : List ℕ) (challenge z1 z2 : ℕ) → Result Contents Refusal
to_read bytes challenge z1 z2 =
    let contents = contents_of (fields_of (bit_at bytes)) in
    cond (is_record bytes) (cond (have_room contents challenge z1 z2) (Ok contents) (Err Output)) (Err Record)

-- what a read answers: the contents, or a refusal
abbrev pub answer_of : Result Contents Refusal → Contents
answer_of (Ok contents) = contents
answer_of (Err refusal) = no_contents (number refusal)
