-- A read by the words of request S-3, said of what the caller sees. Assumes nothing.
use Rattle.std.specs.Prelude.{◌≡◌, true, List, ◌++◌, ◌⊎◌, ◌≢◌, ℕ, ◌<◌, ℤ, length, get_or, drop}
use Rattle.std.proofs.Math.Option.{Option, none, some}
use Rattle.bits.specs.Items.{items_of}
use Rattle.checks.specs.RefusalTable.{Refuses, Serves}
use Rattle.record.specs.Record.{FieldSet, is_field_set, record_of}
use Rattle.record.specs.OneForOne.{AreBytes}
use Rattle.record_reader.specs.declared.Contents.{Contents}
use Rattle.record_reader.specs.Call.{ReadLeft, after_read, read_left}

-- ** Refusals

-- bytes are the record of no field set
abbrev pub NoRecord : (bytes : List ℕ) → Type 0
NoRecord bytes = (f : FieldSet) → is_field_set f ≡ true → record_of f ≢ bytes

-- a field is longer than its output; outputs are lengths
abbrev pub Short : (f : FieldSet) (challenge z1 z2 : ℕ) → Type 0
Short f challenge z1 z2 =
    (challenge < length (items_of f.challenge)) ⊎ (z1 < length (items_of f.z1)) ⊎ (z2 < length (items_of f.z2))

-- bytes are the record of a field set, one of whose fields is longer than its output
pub record NoRoom (bytes : List ℕ) (challenge z1 z2 : ℕ) : Type 0 where
  pub set : FieldSet
  pub storable : is_field_set set ≡ true
  pub stored : record_of set ≡ bytes
  pub short : Short set challenge z1 z2

-- the table of its refusals, in their order
abbrev pub ReadRefuses : (bytes : List ℕ) (challenge z1 z2 : ℕ) (refusal : ℕ) → Type 0
ReadRefuses bytes challenge z1 z2 =
    Refuses 15 (NoRecord bytes)
    (Refuses 14 (NoRoom bytes challenge z1 z2)
    Serves)

-- the refusal of a read is the first that applies, or 0
abbrev pub ReadRefusesFirst : Type 0
ReadRefusesFirst =
    (bytes challenge : List ℕ) (z1 z2 : List ℤ) → AreBytes bytes
    → ReadRefuses bytes (length challenge) (length z1) (length z2) (read_left bytes challenge z1 z2).contents.refusal

-- ** What is left

-- a field that is there stands at the start of its output, whose rest is unchanged, and its length is answered; one that is not there
-- leaves its output, whatever its length is, and answers 0
unfoldable pub Handed : {A : Type 0} (field : Option (List A)) (before after : List A) (count : ℕ) → Type 0
Handed none before after count = (after ≡ before) × (count ≡ 0)
Handed (some items) before after count = (after ≡ items ++ drop (length items) before) × (count ≡ length items)

-- n, the bit map, which is byte 0, and the fields
pub record Gives (f : FieldSet) (challenge : List ℕ) (z1 z2 : List ℤ) (left : ReadLeft) : Type 0 where
  pub degree : left.contents.degree ≡ f.n
  pub map : left.contents.map ≡ get_or (record_of f) 0 0
  pub to_challenge : Handed f.challenge challenge left.challenge left.contents.positions
  pub to_z1 : Handed f.z1 z1 left.z1 left.contents.z1
  pub to_z2 : Handed f.z2 z2 left.z2 left.contents.z2

-- a served read of the record of a field set gives that field set
abbrev pub ReadsTheFields : Type 0
ReadsTheFields =
    (f : FieldSet) (challenge : List ℕ) (z1 z2 : List ℤ) → let left = read_left (record_of f) challenge z1 z2 in
    is_field_set f ≡ true → left.contents.refusal ≡ 0 → Gives f challenge z1 z2 left

-- a read that is refused leaves every output, and all numbers but the refusal are 0
abbrev pub LeavesAll : (left : ReadLeft) (challenge : List ℕ) (z1 z2 : List ℤ) → Type 0
LeavesAll left challenge z1 z2 =
    (left.contents.refusal ≡ 0 → ⊥) →
    let refused : Contents = record { refusal = left.contents.refusal; map = 0; degree = 0; positions = 0; z1 = 0; z2 = 0 } in
    left ≡ after_read refused challenge z1 z2

abbrev pub RefusedReadLeaves : Type 0
RefusedReadLeaves = (bytes challenge : List ℕ) (z1 z2 : List ℤ) → LeavesAll (read_left bytes challenge z1 z2) challenge z1 z2
