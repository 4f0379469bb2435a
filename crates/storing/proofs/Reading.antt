-- The refusal of a read is the first that applies, and what it leaves is the field set or nothing. Assumes nothing.
use mathlib.Core.Path.{◌≡◌, refl, sym, ap, subst, ◌∙◌}
use mathlib.Core.Bool.{Bool, true, false, cond, false≢true}
use mathlib.Core.List.{List}
use mathlib.Core.Option.{Option, none, some}
use Prim.Native.Nat.{ℕ, ◌≤◌}
use native.Mathlib.Omega.{arith}
use lib.IntN.{ℤ}
use lib.ListN.{length, get_or}
use lib.Seq.{sets}
use Rattle.bits.specs.Bits.{number, stream_of, bytes_for, packed}
use Rattle.bits.specs.Items.{stands, items_of}
use Rattle.bits.proofs.Packing.{byte_at}
use Rattle.checks.specs.RefusalTable.{Refuses, refused, passed, Serves}
use Rattle.checks.proofs.RefusalTable.{FailsWhere, fails_either, fails_above}
use Rattle.lists.proofs.AtTheStart.{written}
use Rattle.record.specs.Record.{FieldSet, is_field_set, map_bits, field_bits, record_of}
use Rattle.record.specs.Reading.{field_set_of}
use Rattle.record.specs.OneForOne.{AreBytes}
use Rattle.record.proofs.FieldSets.{length_fields}
use Rattle.record.proofs.OneForOne.{round_trip, just_one_record, just_one_field_set, records_alone}
use Rattle.record_reader.specs.Call.{map_of, contents_of, no_contents, have_room, ReadLeft, after_read, read_served, handed_over, read_left}
use Rattle.record_reader.proofs.ReadLaws.{fits}
use Rattle.storing.specs.Reading.{NoRecord, Short, NoRoom, ReadRefuses, ReadRefusesFirst, Handed, ReadsTheFields, LeavesAll, RefusedReadLeaves}

-- ** The refusal

-- the room of a field set is too little exactly where a field is longer than its output
pub fails_short : (f : FieldSet) (challenge z1 z2 : ℕ) → FailsWhere (have_room (contents_of f) challenge z1 z2) (Short f challenge z1 z2)
unfolding contents_of
fails_short f challenge z1 z2 =
    fails_either (fails_above (length (items_of f.challenge)) challenge)
    (fails_either (fails_above (length (items_of f.z1)) z1) (fails_above (length (items_of f.z2)) z2))

no_record : (bytes : List ℕ) → AreBytes bytes → field_set_of bytes ≡ none → NoRecord bytes
unfolding stands
no_record bytes small e f h is = false≢true (sym (ap stands e) ∙ (records_alone bytes small).1 (f, h, is))

-- a record, by whether its fields have room
by_room : (f : FieldSet) {bytes : List ℕ} (challenge : List ℕ) (z1 z2 : List ℤ) → is_field_set f ≡ true → record_of f ≡ bytes
    → (room : Bool) → have_room (contents_of f) (length challenge) (length z1) (length z2) ≡ room
    → Refuses 14 (NoRoom bytes (length challenge) (length z1) (length z2)) Serves
    (cond room (read_served f challenge z1 z2) (after_read (no_contents 14) challenge z1 z2)).contents.refusal
unfolding contents_of no_contents
by_room f challenge z1 z2 h is true e =
    passed
    (λ r.
    let same = just_one_field_set r.set f r.storable h (r.stored ∙ sym is) in
    (fails_short f _ _ _).holds e (subst (λ (k : FieldSet). Short k (length challenge) (length z1) (length z2)) same r.short))
    refl
by_room f challenge z1 z2 h is false e =
    refused (record { set = f; storable = h; stored = is; short = (fails_short f _ _ _).fails e }) refl

by_set : (bytes challenge : List ℕ) (z1 z2 : List ℤ) → AreBytes bytes → (set : Option FieldSet) → field_set_of bytes ≡ set
    → ReadRefuses bytes (length challenge) (length z1) (length z2) (handed_over set challenge z1 z2).contents.refusal
unfolding handed_over no_contents
by_set bytes challenge z1 z2 small none e = refused (no_record bytes small e) refl
by_set bytes challenge z1 z2 small (some f) e =
    let t = just_one_record bytes f small e in
    passed (λ no. no f t.0 t.1) (by_room f challenge z1 z2 t.0 t.1 _ refl)

pub read_refuses_first : ReadRefusesFirst
read_refuses_first bytes challenge z1 z2 small = by_set bytes challenge z1 z2 small (field_set_of bytes) refl

-- ** What is left

pub read_of_record : (f : FieldSet) (challenge : List ℕ) (z1 z2 : List ℤ) → is_field_set f ≡ true
    → read_left (record_of f) challenge z1 z2 ≡ handed_over (some f) challenge z1 z2
read_of_record f challenge z1 z2 h = ap (λ (set : Option FieldSet). handed_over set challenge z1 z2) (round_trip f h)

pub with_room : (f : FieldSet) (challenge : List ℕ) (z1 z2 : List ℤ) → have_room (contents_of f) (length challenge) (length z1) (length z2) ≡ true
    → handed_over (some f) challenge z1 z2 ≡ read_served f challenge z1 z2
unfolding handed_over
with_room f challenge z1 z2 e = rw e

room_by : (f : FieldSet) (challenge : List ℕ) (z1 z2 : List ℤ) (room : Bool)
    → (cond room (read_served f challenge z1 z2) (after_read (no_contents 14) challenge z1 z2)).contents.refusal ≡ 0 → room ≡ true
unfolding no_contents
room_by f challenge z1 z2 true h = refl
room_by f challenge z1 z2 false h = absurd (omega (arith, h))

served_room : (f : FieldSet) (challenge : List ℕ) (z1 z2 : List ℤ) → (handed_over (some f) challenge z1 z2).contents.refusal ≡ 0
    → have_room (contents_of f) (length challenge) (length z1) (length z2) ≡ true
unfolding handed_over
served_room f challenge z1 z2 h = room_by f challenge z1 z2 (have_room (contents_of f) (length challenge) (length z1) (length z2)) h

-- what is known of a read that is not refused
pub record ReadServed (bytes challenge : List ℕ) (z1 z2 : List ℤ) : Type 0 where
  pub set : FieldSet
  pub storable : is_field_set set ≡ true
  pub stored : record_of set ≡ bytes
  pub room : have_room (contents_of set) (length challenge) (length z1) (length z2) ≡ true
  pub left_is : read_left bytes challenge z1 z2 ≡ read_served set challenge z1 z2

served_set : (bytes challenge : List ℕ) (z1 z2 : List ℤ) → AreBytes bytes → (set : Option FieldSet) → field_set_of bytes ≡ set
    → (handed_over set challenge z1 z2).contents.refusal ≡ 0 → ReadServed bytes challenge z1 z2
unfolding handed_over no_contents
served_set bytes challenge z1 z2 small none e h = absurd (omega (arith, h))
served_set bytes challenge z1 z2 small (some f) e h =
    let t = just_one_record bytes f small e in
    let r = served_room f challenge z1 z2 h in
    record {
      set = f;
      storable = t.0;
      stored = t.1;
      room = r;
      left_is = ap (λ (set : Option FieldSet). handed_over set challenge z1 z2) e ∙ with_room f challenge z1 z2 r;
    }

pub read_served_lem : (bytes challenge : List ℕ) (z1 z2 : List ℤ) → AreBytes bytes → (read_left bytes challenge z1 z2).contents.refusal ≡ 0
    → ReadServed bytes challenge z1 z2
read_served_lem bytes challenge z1 z2 small h = served_set bytes challenge z1 z2 small (field_set_of bytes) refl h

-- the map is the first byte
first_byte : (f : FieldSet) → map_of f ≡ get_or (record_of f) 0 0
unfolding record_of packed field_bits map_bits number
first_byte f = sym (byte_at (stream_of (field_bits f)) 0 (bytes_for (length (field_bits f))) 0 (omega (arith, length_fields f)) ∙ omega arith)

handed : {A : Type 0} (field : Option (List A)) (before : List A) → length (items_of field) ≤ length before
    → Handed field before (sets before 0 (items_of field)) (length (items_of field))
unfolding Handed items_of
handed none before h = (refl, refl)
handed (some items) before h = (written before items h, refl)

pub reads_the_fields : ReadsTheFields
unfolding contents_of
reads_the_fields f challenge z1 z2 h e =
    let same = read_of_record f challenge z1 z2 h in
    let served = served_room f challenge z1 z2 (ap (λ (left : ReadLeft). left.contents.refusal) (sym same) ∙ e) in
    let r = fits (contents_of f) (length challenge) (length z1) (length z2) served in
    rw (same ∙ with_room f challenge z1 z2 served) (record {
      degree = refl;
      map = first_byte f;
      to_challenge = handed f.challenge challenge r.0;
      to_z1 = handed f.z1 z1 r.1;
      to_z2 = handed f.z2 z2 r.2;
    })

-- a refusal leaves all
refused_room : (f : FieldSet) (challenge : List ℕ) (z1 z2 : List ℤ) (room : Bool)
    → LeavesAll (cond room (read_served f challenge z1 z2) (after_read (no_contents 14) challenge z1 z2)) challenge z1 z2
unfolding contents_of no_contents
refused_room f challenge z1 z2 true h = absurd (h refl)
refused_room f challenge z1 z2 false h = refl

refused_set : (set : Option FieldSet) (challenge : List ℕ) (z1 z2 : List ℤ) → LeavesAll (handed_over set challenge z1 z2) challenge z1 z2
unfolding handed_over no_contents
refused_set none challenge z1 z2 h = refl
refused_set (some f) challenge z1 z2 h =
    refused_room f challenge z1 z2 (have_room (contents_of f) (length challenge) (length z1) (length z2)) h

pub refused_read_leaves : RefusedReadLeaves
refused_read_leaves bytes challenge z1 z2 = refused_set (field_set_of bytes) challenge z1 z2
