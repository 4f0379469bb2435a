-- What the code of the writer goes by: the fields that are told, and what comes of them. Assumes nothing.
use Rattle.std.specs.Prelude.{ℕ, Result, Ok, Err, Option as Lent, Some, None}
use Rattle.std.proofs.Math.Option.{Option, none, some}
use denote.Ref.{Bor}
use Rattle.refused.specs.declared.Refusal.{Refusal}
use Rattle.refused.specs.Refusals.{number}
use Rattle.record.specs.Record.{FieldSet}
use Rattle.record_writer.specs.declared.Told.{Told}
use Rattle.record_writer.specs.declared.Written.{Written}
use Rattle.record_writer.specs.Call.{answer}

-- what is lent, if anything is
abbrev pub lent : {A : Type 0} → Lent (Bor A) → Option A
lent None = none
lent (Some a) = some a.now

-- the field set that is told
abbrev pub field_set : Told → FieldSet
field_set told = record {
  n = told.n;
  challenge = lent told.challenge;
  z1 = lent told.z1;
  z2 = lent told.z2;
}

-- what a write answers: the length of the record, or a refusal
abbrev pub written_of : Result ℕ Refusal → Written
written_of (Ok length) = answer 0 length
written_of (Err refusal) = answer (number refusal) 0
