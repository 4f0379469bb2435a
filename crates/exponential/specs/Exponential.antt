-- The exponential e(N) of document 01, its squarings rounded by S-7, in units of 2 ^ -62. Assumes nothing.
use Rattle.std.specs.Prelude.{◌≡◌, Bool, true, false, cond, ◌&&◌, List, [], ◌∷◌, ℕ, zero}
use Rattle.std.specs.Prelude.{suc, ◌+◌, ◌-◌, ◌*◌, ◌/◌, ◌^◌, ◌≤◌, ◌<◌, eqb, leb, get_or}

-- ** The polynomial table

unfoldable pub factorial : ℕ → ℕ
factorial zero = 1
factorial (suc n) = suc n * factorial n

-- entry j: the whole part of 2 ^ 62 / j!
abbrev pub polynomial_entry : ℕ → ℕ
polynomial_entry j = 2 ^ 62 / factorial j

-- count entries, from entry j on
unfoldable pub entries_from : (j count : ℕ) → List ℕ
entries_from j zero = []
entries_from j (suc count) = polynomial_entry j ∷ entries_from (suc j) count

-- the polynomial table: 21 words
unfoldable pub polynomial : List ℕ
polynomial = entries_from 0 21

unfoldable pub same_words : List ℕ → List ℕ → Bool
same_words [] [] = true
same_words [] (b ∷ bs) = false
same_words (a ∷ as') [] = false
same_words (a ∷ as') (b ∷ bs) = eqb a b && same_words as' bs

-- whether a table is the polynomial table
unfoldable pub is_polynomial : List ℕ → Bool
is_polynomial table = same_words table polynomial

-- ** The exponential, over a lent table

-- R, for the divisor q
unfoldable pub reciprocal : ℕ → ℕ
reciprocal q = 2 ^ 84 / q

-- v, for a number R
unfoldable pub scaled : (r n : ℕ) → ℕ
scaled r n = n * r / 2 ^ 22

-- a after the entries j - 1 down to 0
unfoldable pub evaluate : (table : List ℕ) (v j a : ℕ) → ℕ
evaluate table v zero a = a
evaluate table v (suc j) a = evaluate table v j (get_or table j 0 - a * v / 2 ^ 62)

-- one squaring, rounded
unfoldable pub squared : ℕ → ℕ
squared a = (a * a + 2 ^ 61) / 2 ^ 62

-- a after count squarings
unfoldable pub squarings : (count a : ℕ) → ℕ
squarings zero a = a
squarings (suc count) a = squarings count (squared a)

-- e(N), for a number R: entry 20 is where the evaluation starts, and six squarings follow it
unfoldable pub exp_scaled : (table : List ℕ) (r n : ℕ) → ℕ
exp_scaled table r n = squarings 6 (evaluate table (scaled r n) 20 (get_or table 20 0))

-- e(N), for the divisor q
unfoldable pub exp_with : (table : List ℕ) (q n : ℕ) → ℕ
exp_with table q n = exp_scaled table (reciprocal q) n

-- ** BLISS-I

-- q at a deviation: 64 times twice its square
abbrev pub divisor_at : ℕ → ℕ
divisor_at deviation = 64 * (2 * deviation ^ 2)

-- q at deviation 215
abbrev pub divisor : ℕ
divisor = 5916800

-- the largest N
abbrev pub limit : ℕ
limit = 5534960

-- the largest N of an attempt: b(b + 512x) at x = 10 and b = 255
abbrev pub attempt_limit : ℕ
attempt_limit = 1370625

-- e(N)
unfoldable pub exp : ℕ → ℕ
exp n = exp_with polynomial divisor n

-- the exponential by N alone: e(N), or refusal 12
unfoldable pub exp_or_refusal : ℕ → ℕ
exp_or_refusal n = cond (leb n limit) (exp n) (2 ^ 63 + 12)

-- ** What follows

-- a squaring leans no way: it is within half a unit of the square, above or below
pub record Nearest (square rounded : ℕ) : Type 0 where
  pub above : 2 ^ 62 * rounded ≤ square + 2 ^ 61
  pub below : square < 2 ^ 62 * rounded + 2 ^ 61

abbrev pub SquaredNearest : Type 0
SquaredNearest = (a : ℕ) → Nearest (a * a) (squared a)

-- the numbers a of document 01, one after the other, for the divisor q: entry 20, then one for each entry from 19 down to 0, then one for
-- each of six squarings, rounded; the last is e
pub record InTurn (q n e : ℕ) : Type 0 where
  pub a : ℕ → ℕ
  pub start : a 0 ≡ 2 ^ 62 / factorial 20
  pub evaluated : (i : ℕ) → i < 20 → a (suc i) ≡ 2 ^ 62 / factorial (19 - i) - a i * (n * (2 ^ 84 / q) / 2 ^ 22) / 2 ^ 62
  pub squared_next : (i : ℕ) → 20 ≤ i → i < 26 → a (suc i) ≡ (a i * a i + 2 ^ 61) / 2 ^ 62
  pub last : e ≡ a 26

-- so is e(N), at the divisor 5,916,800
abbrev pub ExponentialInTurn : Type 0
ExponentialInTurn = (n : ℕ) → InTurn 5916800 n (exp n)

-- up to 5,534,960 it is e(N), and above it refusal 12
pub record Alone (n result : ℕ) : Type 0 where
  pub up_to : n ≤ 5534960 → result ≡ exp n
  pub above : 5534960 < n → result ≡ 2 ^ 63 + 12

abbrev pub ExponentialAlone : Type 0
ExponentialAlone = (n : ℕ) → Alone n (exp_or_refusal n)
