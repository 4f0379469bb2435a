-- The attempt of document 01. Assumes nothing.
use Rattle.std.specs.Prelude.{◌≡◌, Bool, true, not, cond, ◌&&◌, List, [], ◌∷◌, ◌++◌, ◌↔◌, ℕ, ◌+◌, ◌-◌, ◌*◌}
use Rattle.std.specs.Prelude.{◌/◌, ◌%◌, ◌^◌, ◌<◌, ltb, eqb, length, get_or, take, drop, ℤ, pos, neg_ℤ}
use Rattle.arithmetic.specs.Words.{low62_of}
use Rattle.read_list.specs.Entries.{entry, places_up, places_down}
use Rattle.base_sample.specs.BaseSample.{base_sample}

-- ** Attempt, over x, the low bits b, the sign and u

abbrev pub size : (x b : ℕ) → ℕ
size x b = 256 * x + b

-- N
abbrev pub exponent : (x b : ℕ) → ℕ
exponent x b = b * (b + 512 * x)

-- the accept bit: u is below e(N), and not (size 0 and sign 1)
unfoldable pub accepts : (e : ℕ → ℕ) (x b : ℕ) (negative : Bool) (u : ℕ) → Bool
accepts e x b negative u = ltb u (e (exponent x b)) && not (eqb (size x b) 0 && negative)

-- the sample: the size with its sign
unfoldable pub sample : (x b : ℕ) (negative : Bool) → ℤ
sample x b negative = cond negative (neg_ℤ (pos (size x b))) (pos (size x b))

-- ** Attempt t, from its four words

-- d: 62 of the first word, and 62 of the second
abbrev pub draw_at : (words : List ℕ) (t : ℕ) → ℕ
draw_at words t = low62_of (get_or words (4 * t) 0) * 2 ^ 62 + low62_of (get_or words (4 * t + 1) 0)

-- b: the low 8 bits of the third word
abbrev pub low_bits_at : (words : List ℕ) (t : ℕ) → ℕ
low_bits_at words t = get_or words (4 * t + 2) 0 % 2 ^ 8

-- the sign: bit 8 of the third word, 1 being negative
abbrev pub negative_at : (words : List ℕ) (t : ℕ) → Bool
negative_at words t = eqb (get_or words (4 * t + 2) 0 / 2 ^ 8 % 2) 1

-- u: 62 of the fourth word
abbrev pub uniform_at : (words : List ℕ) (t : ℕ) → ℕ
uniform_at words t = low62_of (get_or words (4 * t + 3) 0)

-- the accept bit of attempt t, where each draw d has the base sample x d
abbrev pub bit_by : (e x : ℕ → ℕ) (words : List ℕ) (t : ℕ) → Bool
bit_by e x words t = accepts e (x (draw_at words t)) (low_bits_at words t) (negative_at words t) (uniform_at words t)

-- its sample
abbrev pub sample_by : (x : ℕ → ℕ) (words : List ℕ) (t : ℕ) → ℤ
sample_by x words t = sample (x (draw_at words t)) (low_bits_at words t) (negative_at words t)

-- both by a CDT table
unfoldable pub bit_at : (e : ℕ → ℕ) (cdt words : List ℕ) (t : ℕ) → Bool
bit_at e cdt = bit_by e (base_sample cdt)

unfoldable pub sample_at : (cdt words : List ℕ) (t : ℕ) → ℤ
sample_at cdt = sample_by (base_sample cdt)

-- ** What follows

-- attempt t is attempt 0 over words 4t to 4t + 3 alone
pub record ByItsWords (e : ℕ → ℕ) (cdt words : List ℕ) (t : ℕ) : Type 0 where
  pub bit : bit_at e cdt words t ≡ bit_at e cdt (take 4 (drop (4 * t) words)) 0
  pub sample : sample_at cdt words t ≡ sample_at cdt (take 4 (drop (4 * t) words)) 0

abbrev pub AttemptByItsWords : Type 0
AttemptByItsWords = (e : ℕ → ℕ) (cdt words : List ℕ) (t : ℕ) → ByItsWords e cdt words t

-- attempt 0 over four words, of which the first two give x: its accept bit is 1 exactly when 62 of the last is below e(N), and not (size 0
-- and sign 1); its sample is the size, negative where the sign is 1
pub record ByRule (e : ℕ → ℕ) (x third fourth : ℕ) (accepted : Bool) (value : ℤ) : Type 0 where
  pub bit : (accepted ≡ true)
      ↔ ((fourth % 2 ^ 62 < e (third % 256 * (third % 256 + 512 * x)))
      × ((256 * x + third % 256 ≡ 0) × (third / 256 % 2 ≡ 1) → ⊥))
  pub plus : third / 256 % 2 ≡ 0 → value ≡ pos (256 * x + third % 256)
  pub minus : third / 256 % 2 ≡ 1 → value ≡ neg_ℤ (pos (256 * x + third % 256))

abbrev pub AttemptByRule : Type 0
AttemptByRule =
    (e : ℕ → ℕ) (cdt : List ℕ) (first second third fourth : ℕ) → let words = first ∷ second ∷ third ∷ fourth ∷ [] in
    ByRule e (base_sample cdt (first % 2 ^ 62 * 2 ^ 62 + second % 2 ^ 62)) third fourth (bit_at e cdt words 0) (sample_at cdt words 0)

-- ** The read list

-- the entries of attempt t, with so many samples accepted before it
unfoldable pub attempt_entries : (t before : ℕ) → List ℕ
attempt_entries t before = places_up 2 (4 * t) 4 ++ (places_up 3 0 20 ++ (places_down 4 21 ++ (entry 5 before ∷ [])))

-- entries are those of attempt t: the places of its four words, of all twenty words of the CDT table, of the polynomial table from entry 20
-- down, and the samples accepted before it
pub record AttemptListed (t before : ℕ) (entries : List ℕ) : Type 0 where
  pub count : length entries ≡ 46
  pub words : (i : ℕ) → i < 4 → get_or entries i 0 ≡ entry 2 (4 * t + i)
  pub thresholds : (i : ℕ) → i < 20 → get_or entries (4 + i) 0 ≡ entry 3 i
  pub polynomial_entries : (i : ℕ) → i < 21 → get_or entries (24 + i) 0 ≡ entry 4 (20 - i)
  pub last : get_or entries 45 0 ≡ entry 5 before

abbrev pub AttemptLists : Type 0
AttemptLists = (t before : ℕ) → AttemptListed t before (attempt_entries t before)
