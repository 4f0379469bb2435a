-- The challenge of document 01. Assumes nothing.
use Rattle.std.specs.Prelude.{Bool, ◌&&◌, List, ℕ, suc, ◌-◌, leb, ltb, length, get_or}
use Rattle.checks.specs.Checks.{all_below}

-- the most positions of a challenge, at any degree
abbrev pub most_positions : ℕ
most_positions = 64

-- whether so many positions are not too many: at most 64, and at most n
abbrev pub length_fits : (n count : ℕ) → Bool
length_fits n count = leb count most_positions && leb count n

-- whether every position is below n
unfoldable pub positions_below : (n : ℕ) (challenge : List ℕ) → Bool
positions_below n challenge = all_below (λ (k : ℕ). ltb (get_or challenge k 0) n) (length challenge)

-- whether the positions are strictly ascending
unfoldable pub ascends : (challenge : List ℕ) → Bool
ascends challenge = all_below (λ (k : ℕ). ltb (get_or challenge k 0) (get_or challenge (suc k) 0)) (length challenge - 1)

-- whether numbers can be the positions of a challenge at degree n: there are not too many, each is below n, and they ascend; there may be
-- none
unfoldable pub are_positions : (n : ℕ) (challenge : List ℕ) → Bool
are_positions n challenge = length_fits n (length challenge) && (positions_below n challenge && ascends challenge)

-- whether they are a challenge: there is at least one
unfoldable pub is_challenge : (n : ℕ) (challenge : List ℕ) → Bool
is_challenge n challenge = ltb 0 (length challenge) && are_positions n challenge
