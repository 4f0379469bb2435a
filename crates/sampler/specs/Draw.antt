-- The draw of document 01, read off the accept bits of its attempts. Assumes nothing.
use Rattle.std.specs.Prelude.{◌≡◌, Bool, true, false, cond, List, [], ◌∷◌, ◌++◌, ◌⊎◌, ℕ, zero, suc}
use Rattle.std.specs.Prelude.{◌+◌, ◌*◌, ◌≤◌, ◌<◌, eqb, length, get_or, take, drop, replicate, ℤ, pos}
use Rattle.std.proofs.lemmas.List.Edits.{sets}
use Rattle.arithmetic.specs.Words.{bit}
use Rattle.read_list.specs.Entries.{entry}
use Rattle.attempt.specs.Attempt.{bit_at, sample_at, attempt_entries}
use Rattle.sampler.specs.declared.Counts.{Counts}

-- ** The attempts made

-- the samples still wanted after an attempt, where suc wanted were wanted before it
abbrev pub still_wanted : (accepted : Bool) (wanted : ℕ) → ℕ
still_wanted true wanted = wanted
still_wanted false wanted = suc wanted

-- the bits of the attempts from t on, with so many attempts left and samples wanted: they end where either is none
unfoldable pub bits_from : (bit_of : ℕ → Bool) (t left wanted : ℕ) → List Bool
bits_from bit_of t zero wanted = []
bits_from bit_of t (suc left) zero = []
bits_from bit_of t (suc left) (suc wanted) = bit_of t ∷ bits_from bit_of (suc t) left (still_wanted (bit_of t) wanted)

-- the bits of a draw of so many samples, within a limit of attempts
unfoldable pub draw_bits : (e : ℕ → ℕ) (cdt words : List ℕ) (limit want : ℕ) → List Bool
draw_bits e cdt words limit want = bits_from (bit_at e cdt words) 0 limit want

-- ** What follows from the bits

-- the accepted count
unfoldable pub accepted : List Bool → ℕ
accepted [] = 0
accepted (b ∷ bits) = bit b + accepted bits

-- full: as many samples are accepted as wanted
abbrev pub is_full : (want count : ℕ) → Bool
is_full want count = eqb count want

-- the samples that are accepted, of the attempts from t on
unfoldable pub samples_from : (sample_of : ℕ → ℤ) (t : ℕ) (bits : List Bool) → List ℤ
samples_from sample_of t [] = []
samples_from sample_of t (b ∷ bits) = cond b (sample_of t ∷ samples_from sample_of (suc t) bits) (samples_from sample_of (suc t) bits)

-- y after a draw: the samples where it is full, else zeros
unfoldable pub draw_y : (cdt words : List ℕ) (want : ℕ) (bits : List Bool) → List ℤ
draw_y cdt words want bits = cond (is_full want (accepted bits)) (samples_from (sample_at cdt words) 0 bits) (replicate want (pos 0))

-- ** The read list

-- the entries of the attempts from t on, and the last one
unfoldable pub entries_from : (t before : ℕ) (bits : List Bool) → List ℕ
entries_from t before [] = entry 6 before ∷ []
entries_from t before (b ∷ bits) = attempt_entries t before ++ entries_from (suc t) (before + bit b) bits

-- the entries of a draw of degree n
unfoldable pub draw_entries : (n : ℕ) (bits : List Bool) → List ℕ
draw_entries n bits = entry 1 n ∷ entries_from 0 0 bits

-- the entries that a draw lists at most: the first, 46 for each attempt, and the last
abbrev pub draw_list_length : (limit : ℕ) → ℕ
draw_list_length limit = 46 * limit + 2

-- ** A whole draw

-- what a draw leaves: its counts, y and the list
pub record Sampled : Type 0 where
  pub counts : Counts
  pub y : List ℤ
  pub list : List ℕ

-- what a draw of degree n with these bits leaves: the entries stand from the start of the list on, and the rest of it is unchanged
unfoldable pub sampled_by : (n : ℕ) (cdt words : List ℕ) (bits : List Bool) (list : List ℕ) → Sampled
sampled_by n cdt words bits list = record {
  counts = record { attempts = length bits; accepted = accepted bits; entries = length (draw_entries n bits) };
  y = draw_y cdt words (2 * n) bits;
  list = sets list 0 (draw_entries n bits);
}

-- ** What follows

-- bits are those of the attempts from t on that a draw makes: each is the rule's and is made with samples still wanted, and they end at
-- the first attempt that makes as many as wanted, or after the limit with fewer
pub record Stops (bit_of : ℕ → Bool) (t limit want : ℕ) (bits : List Bool) : Type 0 where
  pub within : length bits ≤ limit
  pub each : (k : ℕ) → k < length bits → get_or bits k false ≡ bit_of (t + k)
  pub still_wanted_lem : (k : ℕ) → k < length bits → accepted (take k bits) < want
  pub ends : (accepted bits ≡ want) ⊎ ((accepted bits < want) × (length bits ≡ limit))

-- the bits of a draw are such
abbrev pub DrawStops : Type 0
DrawStops =
    (e : ℕ → ℕ) (cdt words : List ℕ) (limit want : ℕ) →
    Stops (bit_at e cdt words) 0 limit want (draw_bits e cdt words limit want)

-- the samples of accepted attempts, each behind those accepted before it
pub record InOrder (sample_of : ℕ → ℤ) (bits : List Bool) (y : List ℤ) : Type 0 where
  pub as_many : length y ≡ accepted bits
  pub each : (k : ℕ) → k < length bits → get_or bits k false ≡ true → get_or y (accepted (take k bits)) (pos 0) ≡ sample_of k

-- so y holds them after a draw that is full
abbrev pub SamplesInOrder : Type 0
SamplesInOrder =
    (cdt words : List ℕ) (want : ℕ) (bits : List Bool) → accepted bits ≡ want
    → InOrder (sample_at cdt words) bits (draw_y cdt words want bits)

-- entries are those of a draw with these bits: the degree, each attempt with the samples accepted before it, and the accepted count
pub record Listed (n : ℕ) (bits : List Bool) (entries : List ℕ) : Type 0 where
  pub count : length entries ≡ 46 * length bits + 2
  pub first : get_or entries 0 0 ≡ entry 1 n
  pub attempts : (k : ℕ) → k < length bits → take 46 (drop (46 * k + 1) entries) ≡ attempt_entries k (accepted (take k bits))
  pub last : get_or entries (46 * length bits + 1) 0 ≡ entry 6 (accepted bits)

abbrev pub DrawLists : Type 0
DrawLists = (n : ℕ) (bits : List Bool) → Listed n bits (draw_entries n bits)

-- a draw lists no more
abbrev pub DrawEntriesAtMost : Type 0
DrawEntriesAtMost =
    (e : ℕ → ℕ) (cdt words : List ℕ) (n limit want : ℕ) →
    length (draw_entries n (draw_bits e cdt words limit want)) ≤ draw_list_length limit
