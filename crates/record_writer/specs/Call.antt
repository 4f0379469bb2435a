-- The writer of request S-3: what a write answers, and what it leaves. Assumes nothing.
use Rattle.std.specs.Prelude.{cond, ◌&&◌, List, [], ◌∷◌, ℕ, leb, eqb, ℤ, length}
use Rattle.std.proofs.lemmas.List.Edits.{sets}
use Rattle.bits.specs.Items.{given, passes}
use Rattle.checks.specs.Checks.{is_degree, Line, line, first_refusal}
use Rattle.challenge.specs.Challenge.{is_challenge}
use Rattle.record.specs.Record.{FieldSet, are_n, are_small, record_of}
use Rattle.record_writer.specs.declared.Fields.{Fields}
use Rattle.record_writer.specs.declared.Written.{Written}

-- the field set that a call tells: a field that is not told is none, whatever is lent for it
abbrev pub told : (n : ℕ) (fields : Fields) (challenge : List ℕ) (z1 z2 : List ℤ) → FieldSet
told n fields challenge z1 z2 = record {
  n = n;
  challenge = given fields.challenge challenge;
  z1 = given fields.z1 z1;
  z2 = given fields.z2 z2;
}

-- ** Refusals

-- what it tests, in order
abbrev pub write_tests : (f : FieldSet) (room : ℕ) → List Line
write_tests f room =
    line 1 (is_degree f.n)
    ∷ line 2 (passes (are_n f.n) f.z1 && passes (are_n f.n) f.z2)
    ∷ line 6 (passes (is_challenge f.n) f.challenge)
    ∷ line 15 (passes are_small f.z1 && passes are_small f.z2)
    ∷ line 14 (leb (length (record_of f)) room)
    ∷ []

-- the first refusal that applies, or 0
unfoldable pub write_refusal : (f : FieldSet) (room : ℕ) → ℕ
write_refusal f room = first_refusal (write_tests f room)

-- ** What is left

pub record WriteLeft : Type 0 where
  pub written : Written
  pub out : List ℕ

abbrev pub after_write : (written : Written) (out : List ℕ) → WriteLeft
after_write written out = record { written = written; out = out }

abbrev pub answer : (refusal length : ℕ) → Written
answer refusal length = record { refusal = refusal; length = length }

-- a refused write answers with 0, and leaves the output
abbrev pub write_refused : (refusal : ℕ) (out : List ℕ) → WriteLeft
write_refused refusal out = after_write (answer refusal 0) out

-- a served one answers with the length of the record, which goes to the start of the output
abbrev pub write_served : (f : FieldSet) (out : List ℕ) → WriteLeft
write_served f out = after_write (answer 0 (length (record_of f))) (sets out 0 (record_of f))

unfoldable pub write_left : (f : FieldSet) (out : List ℕ) → WriteLeft
write_left f out = cond (eqb (write_refusal f (length out)) 0) (write_served f out) (write_refused (write_refusal f (length out)) out)
