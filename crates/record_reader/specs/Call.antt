-- The reader of request S-3: what a read answers, and what it leaves. Assumes nothing.
use Rattle.std.specs.Prelude.{Bool, cond, ◌&&◌, List, ℕ, ◌+◌, ◌*◌, leb, ℤ, length}
use Rattle.std.proofs.Math.Option.{Option, none, some}
use Rattle.std.proofs.lemmas.List.Edits.{sets}
use mir.Val.{bool_byte}
use Rattle.bits.specs.Items.{items_of, stands}
use Rattle.record.specs.Record.{FieldSet}
use Rattle.record.specs.Reading.{field_set_of}
use Rattle.record_reader.specs.declared.Contents.{Contents}

-- ** The answer

-- the bit map as a number
abbrev pub map_of : FieldSet → ℕ
map_of f = bool_byte (stands f.challenge) + 2 * bool_byte (stands f.z1) + 4 * bool_byte (stands f.z2)

-- n, the bit map, and the lengths of the fields, 0 for one that is not there
unfoldable pub contents_of : FieldSet → Contents
contents_of f = record {
  refusal = 0;
  map = map_of f;
  degree = f.n;
  positions = length (items_of f.challenge);
  z1 = length (items_of f.z1);
  z2 = length (items_of f.z2);
}

-- a refusal, and all numbers 0
unfoldable pub no_contents : (refusal : ℕ) → Contents
no_contents refusal = record { refusal = refusal; map = 0; degree = 0; positions = 0; z1 = 0; z2 = 0 }

-- whether each field has room in an output of this length
abbrev pub have_room : (contents : Contents) (challenge z1 z2 : ℕ) → Bool
have_room contents challenge z1 z2 = leb contents.positions challenge && (leb contents.z1 z1 && leb contents.z2 z2)

-- ** What is left

pub record ReadLeft : Type 0 where
  pub contents : Contents
  pub challenge : List ℕ
  pub z1 : List ℤ
  pub z2 : List ℤ

abbrev pub after_read : (contents : Contents) (challenge : List ℕ) (z1 z2 : List ℤ) → ReadLeft
after_read contents challenge z1 z2 = record { contents = contents; challenge = challenge; z1 = z1; z2 = z2 }

-- each field that is there goes to the start of its output
abbrev pub read_served : (f : FieldSet) (challenge : List ℕ) (z1 z2 : List ℤ) → ReadLeft
read_served f challenge z1 z2 =
    after_read (contents_of f) (sets challenge 0 (items_of f.challenge)) (sets z1 0 (items_of f.z1)) (sets z2 0 (items_of f.z2))

-- by the field set whose record the bytes are, if they are one: 15 where they are none, and then 14 where a field has no room
unfoldable pub handed_over : (set : Option FieldSet) (challenge : List ℕ) (z1 z2 : List ℤ) → ReadLeft
handed_over none challenge z1 z2 = after_read (no_contents 15) challenge z1 z2
handed_over (some f) challenge z1 z2 =
    cond (have_room (contents_of f) (length challenge) (length z1) (length z2))
    (read_served f challenge z1 z2)
    (after_read (no_contents 14) challenge z1 z2)

abbrev pub read_left : (bytes : List ℕ) (challenge : List ℕ) (z1 z2 : List ℤ) → ReadLeft
read_left bytes challenge z1 z2 = handed_over (field_set_of bytes) challenge z1 z2
