-- The challenge product of document 01, modulo X^n + 1, and the entries of its reads. A half of the key is told by its base, where it
-- starts: s1 at 0 and s2 at n. Assumes nothing.
use Rattle.std.specs.Prelude.{cond, List, [], ◌∷◌, ◌++◌, ℕ, zero, suc, ◌+◌}
use Rattle.std.specs.Prelude.{◌-◌, ◌*◌, leb, get_or, ℤ, pos, neg_ℤ, ◌+ℤ◌}
use Rattle.read_list.specs.Entries.{entry}
use Rattle.challenge.specs.Challenge.{most_positions}

-- ** The product

-- the index of s that output i uses for the position c: i - c, and n more where the position wraps
abbrev pub index_of : (n i c : ℕ) → ℕ
index_of n i c = cond (leb c i) (i - c) (i + n - c)

-- what the position c adds to output i: the value of s, with a minus sign where the position wraps
unfoldable pub term_at : (key : List ℤ) (n base i c : ℕ) → ℤ
term_at key n base i c = cond (leb c i) (get_or key (base + index_of n i c) (pos 0)) (neg_ℤ (get_or key (base + index_of n i c) (pos 0)))

-- output i of a half: the sum over the positions
unfoldable pub output_at : (key : List ℤ) (n base i : ℕ) (challenge : List ℕ) → ℤ
output_at key n base i [] = pos 0
output_at key n base i (c ∷ challenge) = term_at key n base i c +ℤ output_at key n base i challenge

-- count outputs of a half, from output i on
unfoldable pub outputs_from : (key : List ℤ) (n base : ℕ) (challenge : List ℕ) (i count : ℕ) → List ℤ
outputs_from key n base challenge i zero = []
outputs_from key n base challenge i (suc count) = output_at key n base i challenge ∷ outputs_from key n base challenge (suc i) count

-- Sc: the n outputs of either half
unfoldable pub product : (key : List ℤ) (n : ℕ) (challenge : List ℕ) → List ℤ
product key n challenge = outputs_from key n 0 challenge 0 n ++ outputs_from key n n challenge 0 n

-- the largest size of a key value, and of an output
abbrev pub key_bound : ℕ
key_bound = 7

abbrev pub output_bound : ℕ
output_bound = most_positions * key_bound

-- ** The read list

-- the entries of one output, position by position
unfoldable pub output_entries : (n base i : ℕ) (challenge : List ℕ) → List ℕ
output_entries n base i [] = []
output_entries n base i (c ∷ challenge) = entry 8 (base + index_of n i c) ∷ output_entries n base i challenge

-- the entries of count outputs of a half, from output i on
unfoldable pub output_entries_from : (n base : ℕ) (challenge : List ℕ) (i count : ℕ) → List ℕ
output_entries_from n base challenge i zero = []
output_entries_from n base challenge i (suc count) = output_entries n base i challenge ++ output_entries_from n base challenge (suc i) count

-- the entries of the product: half by half
unfoldable pub product_entries : (n : ℕ) (challenge : List ℕ) → List ℕ
product_entries n challenge = output_entries_from n 0 challenge 0 n ++ output_entries_from n n challenge 0 n
