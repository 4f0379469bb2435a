-- The read list of document 01: its entries, and the part of a lent list that a call has filled. Assumes nothing.
use Rattle.std.specs.Prelude.{◌≡◌, cond, List, [], ◌∷◌, ℕ, zero, suc, ◌+◌, ◌*◌, ◌/◌, ◌%◌, ◌^◌, ◌≤◌, ◌<◌, leb, length, take}

-- (kind, place), as one number
abbrev pub entry : (kind place : ℕ) → ℕ
entry kind place = kind * 2 ^ 24 + place

abbrev pub kind_of : ℕ → ℕ
kind_of e = e / 2 ^ 24

abbrev pub place_of : ℕ → ℕ
place_of e = e % 2 ^ 24

-- (kind, place), (kind, place + 1), ..: count entries
unfoldable pub places_up : (kind place count : ℕ) → List ℕ
places_up kind place zero = []
places_up kind place (suc count) = entry kind place ∷ places_up kind (suc place) count

-- (kind, count - 1) down to (kind, 0)
unfoldable pub places_down : (kind count : ℕ) → List ℕ
places_down kind zero = []
places_down kind (suc count) = entry kind count ∷ places_down kind count

-- the filled part of a list: its first count entries, or none where the count is over its length
unfoldable pub filled_part : List ℕ → ℕ → List ℕ
filled_part list count = cond (leb count (length list)) (take count list) []

-- ** What follows

-- an entry is kind * 2 ^ 24 + place
abbrev pub EntryIs : Type 0
EntryIs = (kind place : ℕ) → entry kind place ≡ kind * 2 ^ 24 + place

-- a count up to the list's length gets so many entries from its start; one over it none
pub record Filled (list : List ℕ) (count : ℕ) (part : List ℕ) : Type 0 where
  pub up_to : count ≤ length list → part ≡ take count list
  pub over : length list < count → part ≡ []

abbrev pub FilledUpTo : Type 0
FilledUpTo = (list : List ℕ) (count : ℕ) → Filled list count (filled_part list count)
