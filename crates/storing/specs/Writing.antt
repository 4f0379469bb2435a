-- A write by the words of request S-3, said of what the caller sees. Assumes nothing.
use Rattle.std.specs.Prelude.{◌≡◌, Bool, true, List, ◌++◌, ◌⊎◌, ◌≢◌, ◌↔◌, ℕ, ◌≤◌, ◌<◌, ℤ, length, drop}
use Rattle.checks.specs.RefusalTable.{Refuses, Serves}
use Rattle.refusals.specs.FirstRefusal.{NoDegree, TooMany, NoPositions, Outside}
use Rattle.record.specs.Record.{FieldSet, is_field_set, record_of}
use Rattle.record_writer.specs.declared.Fields.{Fields}
use Rattle.record_writer.specs.Call.{told, write_left}

-- ** Refusals

-- a field is told, and something holds of it
abbrev pub OfTold : (tells : Bool) (condition : Type 0) → Type 0
OfTold tells condition = (tells ≡ true) × condition

-- the table of its refusals, in their order; room is the length of the output
abbrev pub WriteRefuses : (n : ℕ) (fields : Fields) (challenge : List ℕ) (z1 z2 : List ℤ) (room : ℕ) (refusal : ℕ) → Type 0
WriteRefuses n fields challenge z1 z2 room =
    Refuses 1 (NoDegree n)
    (Refuses 2 (OfTold fields.z1 (length z1 ≢ n) ⊎ OfTold fields.z2 (length z2 ≢ n))
    (Refuses 6 (OfTold fields.challenge ((length challenge ≡ 0) ⊎ TooMany n (length challenge) ⊎ NoPositions n challenge))
    (Refuses 15 (OfTold fields.z1 (Outside 3263 z1) ⊎ OfTold fields.z2 (Outside 3263 z2))
    (Refuses 14 (room < length (record_of (told n fields challenge z1 z2)))
    Serves))))

-- the refusal of a write is the first that applies, or 0
abbrev pub WriteRefusesFirst : Type 0
WriteRefusesFirst =
    (n : ℕ) (fields : Fields) (challenge : List ℕ) (z1 z2 : List ℤ) (out : List ℕ)
    → WriteRefuses n fields challenge z1 z2 (length out) (write_left (told n fields challenge z1 z2) out).written.refusal

-- the field sets of which records are claimed to be one for one (`is_field_set`) are those that can be written: where the record has room,
-- just they are not refused
abbrev pub WritesFieldSets : Type 0
WritesFieldSets =
    (f : FieldSet) (out : List ℕ) → length (record_of f) ≤ length out
    → (is_field_set f ≡ true) ↔ ((write_left f out).written.refusal ≡ 0)

-- ** What is left

-- served, the record stands at the start of the output, whose rest is unchanged, and its length is answered; refused, the output is
-- unchanged, and 0 is answered
pub record WriteLeaves (f : FieldSet) (out : List ℕ) : Type 0 where
  pub served : (write_left f out).written.refusal ≡ 0
      → ((write_left f out).written.length ≡ length (record_of f))
      × ((write_left f out).out ≡ record_of f ++ drop (length (record_of f)) out)
  pub refused : ((write_left f out).written.refusal ≡ 0 → ⊥)
      → ((write_left f out).written.length ≡ 0)
      × ((write_left f out).out ≡ out)

abbrev pub WritesTheRecord : Type 0
WritesTheRecord = (f : FieldSet) (out : List ℕ) → WriteLeaves f out

-- a field that is not told is neither tested nor written: whatever is lent for it, the same is left
abbrev pub UntoldUntested : Type 0
UntoldUntested =
    (n : ℕ) (fields : Fields) (challenge challenge' : List ℕ) (z1 z1' z2 z2' : List ℤ) (out : List ℕ)
    → (fields.challenge ≡ true → challenge ≡ challenge')
    → (fields.z1 ≡ true → z1 ≡ z1')
    → (fields.z2 ≡ true → z2 ≡ z2')
    → write_left (told n fields challenge z1 z2) out ≡ write_left (told n fields challenge' z1' z2') out
