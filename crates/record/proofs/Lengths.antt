-- The table of packed lengths has the lengths of the forms. Assumes nothing.
use mathlib.Core.Path.{◌≡◌, refl, sym, ◌∙◌}
use mathlib.Core.Bool.{Bool}
use Prim.Native.Nat.{ℕ, ◌+◌, ◌/◌, ◌≤◌, ◌<◌}
use native.Mathlib.Omega.{arith}
use borrow.Author.Tests.{eqb-true, le-leb, lt-leb}
use lib.Dec.{eqb}
use lib.IntN.{ℤ, pos, nat_abs}
use lib.ListN.{length, get_or}
use Rattle.checks.specs.Checks.{all_below}
use Rattle.checks.proofs.AllBelow.{all_at}
use Rattle.record.specs.Record.{value_limit, value_bits}
use Rattle.record.specs.Lengths.{packed_lengths, entry_for, packed_length, EntriesAreLengths}
use Rattle.record.proofs.FieldSets.{length_value}

-- whether an entry is right, computed over the whole table
abbrev entry_right : ℕ → Bool
entry_right k = eqb (get_or packed_lengths k 0) (9 + k)

entry_at : (k : ℕ) → k < 26 → get_or packed_lengths k 0 ≡ 9 + k
unfolding all_below
entry_at k h = eqb-true (get_or packed_lengths k 0) (9 + k) (all_at entry_right k 26 h refl)

pub entries_are_lengths : EntriesAreLengths
entries_are_lengths v h = entry_at (nat_abs v / 128) (omega (arith, h)) ∙ sym (length_value v)

-- ** The packed length

pub packed_entry : {size : ℕ} → size ≤ value_limit → packed_length size ≡ entry_for size
unfolding packed_length
packed_entry {size = size} h = rw (le-leb size value_limit h)

pub packed_none : {size : ℕ} → value_limit < size → packed_length size ≡ 0
unfolding packed_length
packed_none {size = size} h = rw (lt-leb size value_limit h)

-- of a value that can be stored
pub packed_value : (v : ℤ) → nat_abs v ≤ value_limit → packed_length (nat_abs v) ≡ length (value_bits v)
packed_value v h = packed_entry h ∙ entries_are_lengths v h

-- of a size that is not too large
pub packed_size : {size : ℕ} → size ≤ value_limit → packed_length size ≡ 9 + size / 128
packed_size {size = size} h = packed_value (pos size) h ∙ length_value (pos size)
