-- The packed length of a value, of request S-4: how many bits its form has, by its size. Assumes nothing.
use Rattle.std.specs.Prelude.{◌≡◌, cond, List, [], ◌∷◌, ℕ, ◌/◌, ◌≤◌, leb, ℤ, nat_abs, length, get_or}
use Rattle.record.specs.Record.{value_limit, value_bits}

-- the column of the printed checklist: its first entry is for sizes 0 to 127, the second for 128 to 255, and the last for 3,200 to 3,263
abbrev pub packed_lengths : List ℕ
packed_lengths =
    9 ∷ 10 ∷ 11 ∷ 12 ∷ 13 ∷ 14 ∷ 15 ∷ 16 ∷ 17 ∷ 18 ∷ 19 ∷ 20 ∷ 21
    ∷ 22 ∷ 23 ∷ 24 ∷ 25 ∷ 26 ∷ 27 ∷ 28 ∷ 29 ∷ 30 ∷ 31 ∷ 32 ∷ 33 ∷ 34 ∷ []

-- the entry for a size
abbrev pub entry_for : (size : ℕ) → ℕ
entry_for size = get_or packed_lengths (size / 128) 0

-- the packed length of a value of this size: its entry, or 0, which is no length, where it is too large
unfoldable pub packed_length : (size : ℕ) → ℕ
packed_length size = cond (leb size value_limit) (entry_for size) 0

-- ** What follows

-- the entry for the size of a value that can be stored, of either sign, is the number of bits in its form
abbrev pub EntriesAreLengths : Type 0
EntriesAreLengths = (v : ℤ) → nat_abs v ≤ value_limit → entry_for (nat_abs v) ≡ length (value_bits v)
