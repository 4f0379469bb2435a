-- A signature that is stored, read and stored again, and responses: as the caller sees it, by request S-3; blank ones by S-5. Assumes
-- nothing.
use Rattle.std.specs.Prelude.{◌≡◌, true, false, List, ◌++◌, ℕ, ◌/◌, ◌≤◌, ℤ, length, take, drop}
use Rattle.bits.specs.Bits.{odd}
use Rattle.challenge.specs.Challenge.{is_challenge}
use Rattle.session.specs.declared.Session.{Session}
use Rattle.session.specs.Calls.{Respond, respond_left}
use Rattle.record.specs.Record.{FieldSet}
use Rattle.record.specs.OneForOne.{AreBytes, longest}
use Rattle.record_writer.specs.declared.Fields.{Fields}
use Rattle.record_writer.specs.Call.{told, write_left}
use Rattle.record_reader.specs.Call.{ReadLeft, read_left}
use Rattle.storing.specs.Reading.{Short, Gives}

-- ** What is written is read

-- the bytes of a served write, read into outputs that are long enough, give the fields that were told, and no others
abbrev pub WrittenIsRead : Type 0
WrittenIsRead =
    (n : ℕ) (fields : Fields) (challenge : List ℕ) (z1 z2 : List ℤ) (out to_challenge : List ℕ) (to_z1 to_z2 : List ℤ) →
    let f = told n fields challenge z1 z2 in
    let left = write_left f out in
    let read = read_left (take left.written.length left.out) to_challenge to_z1 to_z2 in
    left.written.refusal ≡ 0 → (Short f (length to_challenge) (length to_z1) (length to_z2) → ⊥) →
    (read.contents.refusal ≡ 0) × Gives f to_challenge to_z1 to_z2 read

-- ** What is read is written again

-- the fields whose bit stands in a map
abbrev pub fields_in : (map : ℕ) → Fields
fields_in map = record { challenge = odd map; z1 = odd (map / 2); z2 = odd (map / 4) }

-- what a read gave, told again
abbrev pub told_again : (read : ReadLeft) → FieldSet
told_again read =
    let c = read.contents in
    told c.degree (fields_in c.map) (take c.positions read.challenge) (take c.z1 read.z1) (take c.z2 read.z2)

-- bytes that are read are those that are written again, in an output that is long enough
abbrev pub ReadIsWritten : Type 0
ReadIsWritten =
    (bytes challenge : List ℕ) (z1 z2 : List ℤ) (out : List ℕ) →
    let read = read_left bytes challenge z1 z2 in
    let left = write_left (told_again read) out in
    AreBytes bytes → read.contents.refusal ≡ 0 → length bytes ≤ length out →
    (left.written.refusal ≡ 0) × (left.written.length ≡ length bytes) × (left.out ≡ bytes ++ drop (length bytes) out)

-- ** Responses

abbrev pub all_fields : Fields
all_fields = record { challenge = true; z1 = true; z2 = true }

-- whatever a served respond hands back can be stored with its challenge, in an output of the length that hosts are told; a record's
-- challenge has at least one position
abbrev pub ResponsesAreStored : Type 0
ResponsesAreStored =
    (s : Session) (r : Respond) (out : List ℕ) →
    let n = s.degree in
    let left = respond_left s r in
    left.responded.answer.refusal ≡ 0 →
    is_challenge n r.challenge ≡ true →
    longest n (length r.challenge) ≤ length out →
    (write_left (told n all_fields r.challenge (take n left.z) (drop n left.z)) out).written.refusal ≡ 0

-- and without it: so is a blank response stored, which has none
abbrev pub both_halves : Fields
both_halves = record { challenge = false; z1 = true; z2 = true }

abbrev pub HalvesAreStored : Type 0
HalvesAreStored =
    (s : Session) (r : Respond) (out : List ℕ) →
    let n = s.degree in
    let left = respond_left s r in
    left.responded.answer.refusal ≡ 0 →
    longest n 0 ≤ length out →
    (write_left (told n both_halves r.challenge (take n left.z) (drop n left.z)) out).written.refusal ≡ 0
