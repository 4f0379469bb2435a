-- Records and field sets are one for one. Assumes nothing.
use Rattle.std.specs.Prelude.{◌≡◌, true, List, ◌↔◌, ℕ, ◌+◌, ◌*◌, ◌/◌, ◌≤◌, ◌<◌, length, get_or}
use Rattle.std.proofs.Math.Option.{some}
use Rattle.bits.specs.Items.{stands, items_of}
use Rattle.record.specs.Record.{FieldSet, is_field_set, record_of}
use Rattle.record.specs.Reading.{field_set_of}

-- ** One for one

-- bytes are numbers below 256
abbrev pub AreBytes : List ℕ → Type 0
AreBytes bytes = (k : ℕ) → get_or bytes k 0 < 256

-- a record is bytes
abbrev pub RecordsAreBytes : Type 0
RecordsAreBytes = (f : FieldSet) → AreBytes (record_of f)

-- what is written is read again
abbrev pub RoundTrip : Type 0
RoundTrip = (f : FieldSet) → is_field_set f ≡ true → field_set_of (record_of f) ≡ some f

-- what is read can be stored, and the bytes are its record: a field set has just one
abbrev pub JustOneRecord : Type 0
JustOneRecord =
    (bytes : List ℕ) (f : FieldSet) → AreBytes bytes → field_set_of bytes ≡ some f
    → (is_field_set f ≡ true) × (record_of f ≡ bytes)

-- two field sets with the same record are the same
abbrev pub JustOneFieldSet : Type 0
JustOneFieldSet = (f g : FieldSet) → is_field_set f ≡ true → is_field_set g ≡ true → record_of f ≡ record_of g → f ≡ g

-- the reader takes every record, and nothing else
abbrev pub RecordsAlone : Type 0
RecordsAlone =
    (bytes : List ℕ) → AreBytes bytes
    → (stands (field_set_of bytes) ≡ true) ↔ ((f : FieldSet) × (is_field_set f ≡ true) × (record_of f ≡ bytes))

-- ** How long a record can be

-- of degree n and with so many positions: 34 bits for each value of z1 and z2, the form of the largest size
abbrev pub longest : (n count : ℕ) → ℕ
longest n count = 4 + 2 * count + (34 * (2 * n) + 7) / 8

abbrev pub LongestRecord : Type 0
LongestRecord = (f : FieldSet) → is_field_set f ≡ true → length (record_of f) ≤ longest f.n (length (items_of f.challenge))
