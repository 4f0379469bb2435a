-- Document 01's table of refusals, with request S-5's change of line 6 and lines 16 and 17 of request S-8, as statements about the number
-- that a call answers. Numbers and conditions are written out as the table has them, and not by the tests of Refusals. Assumes nothing.
use Rattle.std.specs.Prelude.{◌≡◌, List, ◌⊎◌, ◌≢◌, ℕ, suc, ◌+◌, ◌-◌, ◌*◌, ◌/◌, ◌^◌, ◌≤◌, ◌<◌, ℤ, pos, nat_abs, length, get_or}
use Rattle.checks.specs.RefusalTable.{Refuses, Serves, Somewhere, PowerOfTwo}
use Rattle.exponential.specs.Exponential.{factorial}
use Rattle.base_sample.specs.BaseSample.{threshold}

-- ** When lines apply

-- 1: n is not a power of two from 4 to 1,024
abbrev pub NoDegree : (n : ℕ) → Type 0
NoDegree n = PowerOfTwo n → ⊥

-- 16: the deviation is not one of the four
abbrev pub NoDeviation : (deviation : ℕ) → Type 0
NoDeviation deviation = (deviation ≡ 107) ⊎ (deviation ≡ 215) ⊎ (deviation ≡ 250) ⊎ (deviation ≡ 271) → ⊥

-- 3: a CDT word is 2 ^ 62 or more, or a threshold is below the one before
abbrev pub NoCdt : (cdt : List ℕ) → Type 0
NoCdt cdt = Somewhere 20 (λ (i : ℕ). 2 ^ 62 ≤ get_or cdt i 0) ⊎ Somewhere 9 (λ (i : ℕ). threshold cdt (suc i) < threshold cdt i)

-- 4: a polynomial entry is not the whole part of 2 ^ 62 / j!
abbrev pub NoPolynomial : (table : List ℕ) → Type 0
NoPolynomial table = Somewhere 21 (λ (j : ℕ). get_or table j 0 ≢ 2 ^ 62 / factorial j)

-- 6: too many positions: more than 64 or than n
abbrev pub TooMany : (n count : ℕ) → Type 0
TooMany n count = (64 < count) ⊎ (n < count)

-- 6: a position is n or more, or is not above the one before
abbrev pub NoPositions : (n : ℕ) (challenge : List ℕ) → Type 0
NoPositions n challenge =
    Somewhere (length challenge) (λ (k : ℕ). n ≤ get_or challenge k 0)
    ⊎ Somewhere (length challenge - 1) (λ (k : ℕ). get_or challenge (suc k) 0 ≤ get_or challenge k 0)

-- 10 and 11: a value is outside -bound to bound
abbrev pub Outside : (bound : ℕ) (values : List ℤ) → Type 0
Outside bound values = Somewhere (length values) (λ (i : ℕ). bound < nat_abs (get_or values i (pos 0)))

-- ** The table behind the lines of degree and deviation, for each call: what it is lent and tests, and the number that it answers

-- words, y and list are lengths
abbrev pub DrawLines : (n limit : ℕ) (cdt polynomial : List ℕ) (words y list : ℕ) (refusal : ℕ) → Type 0
DrawLines n limit cdt polynomial words y list =
    Refuses 2 ((length cdt ≢ 20) ⊎ (length polynomial ≢ 21) ⊎ (y ≢ 2 * n))
    (Refuses 3 (NoCdt cdt)
    (Refuses 4 (NoPolynomial polynomial)
    (Refuses 5 ((limit < 2 * n) ⊎ (32 * n < limit))
    (Refuses 7 (words < 4 * limit)
    (Refuses 8 (list < 46 * limit + 2)
    Serves)))))

-- a respond, as to y and the key: 1 is drawn, and every other number is not
abbrev pub NoiseLines : (drawn : ℕ) (key y : List ℤ) (refusal : ℕ) → Type 0
NoiseLines drawn key y =
    Refuses 9 (drawn ≢ 1)
    (Refuses 10 (Outside 7 key)
    (Refuses 11 (Outside 2815 y)
    Serves))

-- words, z and list are lengths
abbrev pub RespondLines : (n drawn : ℕ) (challenge polynomial : List ℕ) (words : ℕ) (key y : List ℤ) (z list : ℕ)
    (refusal : ℕ) → Type 0
RespondLines n drawn challenge polynomial words key y z list =
    Refuses 2 ((length polynomial ≢ 21) ⊎ (length y ≢ 2 * n) ⊎ (z ≢ 2 * n) ⊎ (length key ≢ 2 * n))
    (Refuses 4 (NoPolynomial polynomial)
    (Refuses 6 (TooMany n (length challenge) ⊎ NoPositions n challenge)
    (Refuses 7 (words < 3)
    (Refuses 8 (list < 2 * n * length challenge + 47)
    (NoiseLines drawn key y)))))

-- request S-5: where the challenge is empty, line 6 never applies
abbrev pub BlankLines : (n drawn : ℕ) (polynomial : List ℕ) (words : ℕ) (key y : List ℤ) (z list : ℕ) (refusal : ℕ) → Type 0
BlankLines n drawn polynomial words key y z list =
    Refuses 2 ((length polynomial ≢ 21) ⊎ (length y ≢ 2 * n) ⊎ (z ≢ 2 * n) ⊎ (length key ≢ 2 * n))
    (Refuses 4 (NoPolynomial polynomial)
    (Refuses 7 (words < 3)
    (Refuses 8 (list < 47)
    (NoiseLines drawn key y))))

-- ** The whole table, where the lines of a call follow these

abbrev pub OpeningRefuses : (n deviation : ℕ) (refusal : ℕ) → Type 0
OpeningRefuses n deviation =
    Refuses 1 (NoDegree n)
    (Refuses 16 (NoDeviation deviation)
    Serves)

abbrev pub DrawRefuses : (n deviation : ℕ) (lines : ℕ → Type 0) (refusal : ℕ) → Type 0
DrawRefuses n deviation lines =
    Refuses 1 (NoDegree n)
    (Refuses 16 (NoDeviation deviation)
    lines)

abbrev pub RespondRefuses : (n deviation : ℕ) (lines : ℕ → Type 0) (refusal : ℕ) → Type 0
RespondRefuses n deviation lines =
    Refuses 1 (NoDegree n)
    (Refuses 16 (NoDeviation deviation)
    (Refuses 17 (deviation ≢ 215)
    lines))

-- document 01's, which knows no deviation
abbrev pub RefusesAt215 : (n : ℕ) (lines : ℕ → Type 0) (refusal : ℕ) → Type 0
RefusesAt215 n lines = Refuses 1 (NoDegree n) lines
