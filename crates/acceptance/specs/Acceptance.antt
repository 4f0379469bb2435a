-- The bit of a response of document 01 and request S-2, from what it depends on. Assumes nothing.
use Rattle.std.specs.Prelude.{Bool, ◌&&◌, List, [], ◌∷◌, ◌++◌, ℕ, ◌+◌, ◌-◌, ◌*◌, ◌/◌, ◌^◌, min, leb, ltb, ℤ, nat_abs}
use Rattle.arithmetic.specs.Words.{low62_of, bit}
use Rattle.read_list.specs.Entries.{entry, places_down}
use Rattle.exponential.specs.Exponential.{limit}
use Rattle.acceptance.specs.declared.Measures.{Measures}

-- the most that A may be: 215 ^ 2
abbrev pub squares_limit : ℕ
squares_limit = 46225

-- the most that Z may be: 12872 ^ 2, BLISS-I's B2
abbrev pub norm_limit : ℕ
norm_limit = 165688384

-- N1: 46,225 - A, or 0 where A is larger
abbrev pub first_exponent : (a : ℕ) → ℕ
first_exponent a = squares_limit - a

-- N2: the smaller of 2|I| and the exponential's limit
abbrev pub second_exponent : (i : ℤ) → ℕ
second_exponent i = min (2 * nat_abs i) limit

-- the cosh test, multiplied out: f is the whole part of e * e / 2 ^ 62
unfoldable pub cosh_passes : (e word : ℕ) → Bool
cosh_passes e word = ltb (low62_of word * (2 ^ 62 + e * e / 2 ^ 62)) (e * 2 ^ 63)

-- the five tests, by e(N1) and e(N2): A and Z are within their limits, the coefficients of z1 are within theirs, and the second and the
-- third word pass
unfoldable pub all_pass : (m : Measures) (e₁ e₂ : ℕ) → Bool
all_pass m e₁ e₂ =
    leb m.squares squares_limit
    && (leb m.norm norm_limit
    && (m.bounded
    && (ltb (low62_of m.second) e₁
    && cosh_passes e₂ m.third)))

-- the bit
unfoldable pub accepts_by : (e : ℕ → ℕ) (m : Measures) → Bool
accepts_by e m = all_pass m (e (first_exponent m.squares)) (e (second_exponent m.inner))

-- ** The read list

-- the entries of both exponentials, and the bit
unfoldable pub acceptance_entries : (accepted : Bool) → List ℕ
acceptance_entries accepted = places_down 4 21 ++ (places_down 4 21 ++ (entry 9 (bit accepted) ∷ []))
