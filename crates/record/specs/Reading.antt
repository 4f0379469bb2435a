-- What is read off the bits of a record. Behind the bytes the stream has zeros, so that reading needs no bounds: a value that is cut short
-- has no one, and is too large; anything else that is cut short ends behind the bytes. Nobody has to believe this file: OneForOne says that
-- what is read so are the records, and nothing else. Assumes nothing.
use Rattle.std.specs.Prelude.{Bool, cond, not, ◌&&◌, ◌||◌, List, ℕ, ◌+◌, ◌*◌, leb, eqb, ℤ, pos, neg_ℤ, length}
use Rattle.std.proofs.Math.Option.{Option}
use Rattle.bits.specs.Bits.{number, zeros, bit_at, bytes_for}
use Rattle.bits.specs.Items.{given, items_at, behind, each_at}
use Rattle.checks.specs.Checks.{is_degree}
use Rattle.challenge.specs.Challenge.{is_challenge}
use Rattle.record.specs.Record.{FieldSet, value_limit}

-- ** A value of z

-- the zeros of its form: 26 of them, and any more, are too large a size
abbrev pub zeros_at : (s : ℕ → Bool) (at : ℕ) → ℕ
zeros_at s at = zeros s (at + 8) 26

abbrev pub size_at : (s : ℕ → Bool) (at : ℕ) → ℕ
size_at s at = number s (at + 1) 7 + 128 * zeros_at s at

abbrev pub with_sign : (minus : Bool) (size : ℕ) → ℤ
with_sign minus size = cond minus (neg_ℤ (pos size)) (pos size)

unfoldable pub value_at : (s : ℕ → Bool) (at : ℕ) → ℤ
value_at s at = with_sign (s at) (size_at s at)

unfoldable pub next_value : (s : ℕ → Bool) (at : ℕ) → ℕ
next_value s at = at + 9 + zeros_at s at

-- whether it is a value: not too large, and no negative zero
unfoldable pub is_value : (s : ℕ → Bool) (at : ℕ) → Bool
is_value s at = leb (size_at s at) value_limit && not (s at && eqb (size_at s at) 0)

-- ** A challenge

unfoldable pub positions_at : (s : ℕ → Bool) (at count : ℕ) → List ℕ
positions_at s at count = items_at (λ (i : ℕ). number s i 16) (λ (i : ℕ). i + 16) at count

abbrev pub challenge_at : (s : ℕ → Bool) (at : ℕ) → List ℕ
challenge_at s at = positions_at s (at + 8) (number s at 8)

abbrev pub next_challenge : (s : ℕ → Bool) (at : ℕ) → ℕ
next_challenge s at = at + 8 + 16 * number s at 8

-- ** The fields, and where they start

abbrev pub degree_of : (s : ℕ → Bool) → ℕ
degree_of s = number s 8 16

-- the bits of the map
abbrev pub has_challenge : (s : ℕ → Bool) → Bool
has_challenge s = s 7

abbrev pub has_z1 : (s : ℕ → Bool) → Bool
has_z1 s = s 6

abbrev pub has_z2 : (s : ℕ → Bool) → Bool
has_z2 s = s 5

-- how many items there are: so many, if they are there
abbrev pub count_if : (has : Bool) (count : ℕ) → ℕ
count_if has count = cond has count 0

unfoldable pub z1_start : (s : ℕ → Bool) → ℕ
z1_start s = cond (has_challenge s) (next_challenge s 24) 24

unfoldable pub z2_start : (s : ℕ → Bool) → ℕ
z2_start s = behind (next_value s) (z1_start s) (count_if (has_z1 s) (degree_of s))

unfoldable pub fields_end : (s : ℕ → Bool) → ℕ
fields_end s = behind (next_value s) (z2_start s) (count_if (has_z2 s) (degree_of s))

unfoldable pub fields_of : (s : ℕ → Bool) → FieldSet
fields_of s = record {
  n = degree_of s;
  challenge = given (has_challenge s) (challenge_at s 24);
  z1 = given (has_z1 s) (items_at (value_at s) (next_value s) (z1_start s) (degree_of s));
  z2 = given (has_z2 s) (items_at (value_at s) (next_value s) (z2_start s) (degree_of s));
}

-- ** Records

-- whether each field, if it is there, is one
unfoldable pub are_fields : (s : ℕ → Bool) → Bool
are_fields s =
    is_degree (degree_of s)
    && ((not (has_challenge s) || is_challenge (degree_of s) (challenge_at s 24))
    && (each_at (is_value s) (next_value s) (z1_start s) (count_if (has_z1 s) (degree_of s))
    && each_at (is_value s) (next_value s) (z2_start s) (count_if (has_z2 s) (degree_of s))))

-- whether bytes are a record: the fields are fields, the other bits of the map are 0, zeros pad to a byte, and no byte follows
unfoldable pub is_record : (bytes : List ℕ) → Bool
is_record bytes =
    are_fields (bit_at bytes)
    && (eqb (number (bit_at bytes) 0 5) 0
    && (eqb (number (bit_at bytes) (fields_end (bit_at bytes)) 8) 0
    && eqb (length bytes) (bytes_for (fields_end (bit_at bytes)))))

-- the field set whose record bytes are, if they are one
unfoldable pub field_set_of : (bytes : List ℕ) → Option FieldSet
field_set_of bytes = given (is_record bytes) (fields_of (bit_at bytes))
