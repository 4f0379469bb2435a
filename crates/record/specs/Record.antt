-- The record of a signature, of request S-3: a field set, its bits, and its bytes. A byte is eight bits, its highest first; two bytes, the
-- high one first, are sixteen. Assumes nothing.
use Rattle.std.specs.Prelude.{Bool, true, false, ◌&&◌, List, [], ◌∷◌, ◌++◌, ℕ, ◌/◌, eqb, ℤ, pos, negsuc, nat_abs, length, replicate}
use Rattle.std.proofs.Math.Option.{Option}
use Rattle.bits.specs.Bits.{digits, packed}
use Rattle.bits.specs.Items.{joined, stands, form_if, passes}
use Rattle.checks.specs.Checks.{is_degree}
use Rattle.signed.specs.Vectors.{all_within}
use Rattle.challenge.specs.Challenge.{is_challenge}

-- ** Field sets

-- n, and each field or none
pub record FieldSet : Type 0 where
  pub n : ℕ
  pub challenge : Option (List ℕ)
  pub z1 : Option (List ℤ)
  pub z2 : Option (List ℤ)

-- the largest size of a value
abbrev pub value_limit : ℕ
value_limit = 3263

-- whether values are n
abbrev pub are_n : (n : ℕ) (z : List ℤ) → Bool
are_n n z = eqb (length z) n

-- whether no value is too large
abbrev pub are_small : (z : List ℤ) → Bool
are_small z = all_within value_limit z

-- whether values can be stored as z1 or z2
abbrev pub is_half : (n : ℕ) (z : List ℤ) → Bool
is_half n z = are_n n z && are_small z

-- whether fields can be stored, those that are there
unfoldable pub is_field_set : FieldSet → Bool
is_field_set f =
    is_degree f.n
    && (passes (is_challenge f.n) f.challenge
    && (passes (is_half f.n) f.z1
    && passes (is_half f.n) f.z2))

-- ** Their bits

abbrev pub negative : ℤ → Bool
negative (pos n) = false
negative (negsuc n) = true

-- a sign bit, 1 where the value is negative, and so 0 for zero; seven low bits of the size, the highest first; then size/128 zeros and a
-- one
unfoldable pub value_bits : ℤ → List Bool
value_bits v = negative v ∷ (digits 7 (nat_abs v) ++ (replicate (nat_abs v / 128) false ++ (true ∷ [])))

-- a count byte, and positions of two bytes, the high byte first
unfoldable pub challenge_bits : List ℕ → List Bool
challenge_bits challenge = digits 8 (length challenge) ++ joined (digits 16) challenge

-- the bit map, its highest bit first: bit 0 challenge, bit 1 z1, bit 2 z2, the others 0
unfoldable pub map_bits : FieldSet → List Bool
map_bits f = replicate 5 false ++ (stands f.z2 ∷ (stands f.z1 ∷ (stands f.challenge ∷ [])))

-- the bit map, two bytes of n, the high byte first, then only the fields whose bit stands, in that order: the bits of z1 and z2 are one
-- sequence
unfoldable pub field_bits : FieldSet → List Bool
field_bits f =
    map_bits f
    ++ (digits 16 f.n
    ++ (form_if challenge_bits f.challenge
    ++ (form_if (joined value_bits) f.z1
    ++ form_if (joined value_bits) f.z2)))

-- ** The record

-- the bits in bytes, each filled from its highest bit, the last one padded with zeros
unfoldable pub record_of : FieldSet → List ℕ
record_of f = packed (field_bits f)
