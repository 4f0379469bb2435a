-- The polynomial table, the factorials, a squaring, the constants of deviation 215, and e(0). Assumes nothing.
use mathlib.Core.Path.{◌≡◌, refl, sym, ap, ◌∙◌}
use mathlib.Core.Bool.{Bool, true, false, ◌&&◌}
use mathlib.Core.List.{List, [], ◌∷◌}
use Prim.Native.Nat.{ℕ, zero, suc, ◌+◌, ◌*◌, ◌/◌, ◌^◌, ◌≤◌, ◌<◌}
use native.Mathlib.Nat.{zero-lt-suc, add-zero, zero-add, add-suc, suc-add, le_of_suc-le-suc, not-suc-le-zero, zero-mul, mul-pos, le_trans}
use native.Mathlib.Nat.{mul-le-mul_left, mul-le-mul_right, div-mul-le_self, le-div_iff_mul-le, le_of_mul-le-mul_right}
use native.Mathlib.Omega.{arith}
use borrow.Author.Tests.{eq-eqb, eqb-true}
use lib.Pow.{pow_pos}
use lib.Dec.{eqb}
use lib.ListN.{get_or}
use Rattle.exponential.specs.Exponential.{factorial, polynomial_entry, entries_from, polynomial, same_words, is_polynomial}
use Rattle.exponential.specs.Exponential.{reciprocal, scaled, evaluate, squared, squarings, exp_scaled, exp_with, divisor}
use Rattle.exponential.specs.Exponential.{SquaredNearest}

-- ** Factorials

pub factorial_pos : (k : ℕ) → 0 < factorial k
unfolding factorial
factorial_pos zero = zero-lt-suc 0
factorial_pos (suc k) = mul-pos (zero-lt-suc k) (factorial_pos k)

pub factorial_suc : (k : ℕ) → factorial (suc k) ≡ suc k * factorial k
unfolding factorial
factorial_suc k = refl

pub factorial_le : (j : ℕ) → factorial j ≤ factorial (suc j)
factorial_le j = rw factorial_suc (omega (arith, mul-le-mul_right (factorial j) (zero-lt-suc j)))

-- ** Entries

entry_at : (j k i : ℕ) → i < k → get_or (entries_from j k) i 0 ≡ polynomial_entry (j + i)
unfolding entries_from
entry_at j zero i h = absurd (not-suc-le-zero h)
entry_at j (suc k) zero h = ap polynomial_entry (sym (add-zero j))
entry_at j (suc k) (suc i) h = entry_at (suc j) k i (le_of_suc-le-suc h) ∙ ap polynomial_entry (suc-add j i ∙ sym (add-suc j i))

-- entry j of the table
pub table_at : (j : ℕ) → j < 21 → get_or polynomial j 0 ≡ polynomial_entry j
unfolding polynomial
table_at j h = entry_at 0 21 j h ∙ ap polynomial_entry (zero-add j)

pub entry_low : (j : ℕ) → polynomial_entry j * factorial j ≤ 2 ^ 62
entry_low j = div-mul-le_self (2 ^ 62) (factorial j)

-- the product is at most a, which is at most the next entry
pub product_small : (a v : ℕ) → v ≤ 2 ^ 62 → a * v / 2 ^ 62 ≤ a
product_small a v h = le_of_mul-le-mul_right {k = 2 ^ 62} (le_trans (div-mul-le_self (a * v) (2 ^ 62)) (mul-le-mul_left a h)) (pow_pos 62)

pub small_entry : (j a : ℕ) → a * factorial (suc j) ≤ 2 ^ 62 → a ≤ polynomial_entry j
small_entry j a h = (le-div_iff_mul-le (factorial_pos j)).1 (le_trans (mul-le-mul_left a (factorial_le j)) h)

-- ** A squaring

pub squared_nearest : SquaredNearest
unfolding squared
squared_nearest a = record { above = omega arith; below = omega arith }

-- what is at most 1 does not grow
pub squared_small : (a : ℕ) → a ≤ 2 ^ 62 → squared a ≤ a
squared_small a h = omega (arith, (squared_nearest a).above, mul-le-mul_left a h)

-- ** Lists of words that are the same

same_words_refl : (l : List ℕ) → same_words l l ≡ true
unfolding same_words
same_words_refl [] = refl
same_words_refl (a ∷ l) = rw (eq-eqb a a refl, same_words_refl l)

same_cons : (a b : ℕ) (l m : List ℕ) → (same_words l m ≡ true → l ≡ m) → (t : Bool) → eqb a b ≡ t → (t && same_words l m) ≡ true
    → a ∷ l ≡ b ∷ m
same_cons a b l m rest true e s = rw (eqb-true a b e, rest s)
same_cons a b l m rest false e s = cc

same_words_lem : (l m : List ℕ) → same_words l m ≡ true → l ≡ m
unfolding same_words
same_words_lem [] [] e = refl
same_words_lem [] (b ∷ m) e = cc
same_words_lem (a ∷ l) [] e = cc
same_words_lem (a ∷ l) (b ∷ m) e = same_cons a b l m (same_words_lem l m) (eqb a b) refl e

-- ** The test of a table

pub is_polynomial_lem : (table : List ℕ) → table ≡ polynomial → true ≡ is_polynomial table
unfolding is_polynomial
is_polynomial_lem table e = rw e (sym (same_words_refl polynomial))

pub polynomial_of : (table : List ℕ) → is_polynomial table ≡ true → table ≡ polynomial
unfolding is_polynomial
polynomial_of table e = same_words_lem table polynomial e

pub not_polynomial : (table : List ℕ) → (table ≡ polynomial → ⊥) → false ≡ is_polynomial table
not_polynomial table h = by (is_polynomial table) refl
  where
    by : (t : Bool) → is_polynomial table ≡ t → false ≡ t
    by true e = absurd (h (polynomial_of table e))
    by false e = refl

-- ** Deviation 215

pub reciprocal_215 : reciprocal divisor ≡ 3269134179596076729
unfolding reciprocal
reciprocal_215 = refl

-- e(N), by the constant R
pub by_215 : (table : List ℕ) → exp_scaled table 3269134179596076729 ≡ exp_with table divisor
unfolding exp_with
by_215 table = ap (exp_scaled table) (sym reciprocal_215)

-- ** N = 0

-- e(0) is one, for every divisor
pub exp_of_none : (q : ℕ) → exp_with polynomial q 0 ≡ 2 ^ 62
unfolding exp_with exp_scaled scaled evaluate squarings squared polynomial entries_from factorial
exp_of_none q = rw (zero-mul (reciprocal q)) refl
