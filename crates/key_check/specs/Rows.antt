-- What the code of the key check goes by: a key that was tested, sums over stretches of it, and rows of the table. Assumes nothing.
use Rattle.std.specs.Prelude.{◌≡◌, true, List, ◌∷◌, ℕ, zero, suc, ◌+◌, ◌-◌, ◌*◌, ◌≤◌}
use Rattle.std.specs.Prelude.{◌<◌, length, get_or, ℤ, pos, neg_ℤ, nat_abs, ◌+ℤ◌, ◌*ℤ◌}
use Rattle.signed.specs.Vectors.{all_within}
use Rattle.challenge_product.specs.Product.{key_bound, term_at}
use Rattle.key_check.specs.KeyCheck.{table}

-- what the tests before the sum have shown
pub record Keyed (key : List ℤ) (n : ℕ) : Type 0 where
  pub both : length key ≡ 2 * n
  pub least : 0 < n
  pub most : n ≤ 1024
  pub small : all_within key_bound key ≡ true

-- f 0 + .. + f (n - 1)
unfoldable pub sum_to : (f : ℕ → ℤ) (n : ℕ) → ℤ
sum_to f zero = pos 0
sum_to f (suc n) = sum_to f n +ℤ f n

-- values of a stretch of such a key
abbrev pub AreSmall : (values : List ℤ) → Type 0
AreSmall values = (j : ℕ) → nat_abs (get_or values j (pos 0)) ≤ key_bound

-- the product of two stretches' values at place p
abbrev pub product_of : (a b : List ℤ) (p : ℕ) → ℤ
product_of a b p = get_or a p (pos 0) *ℤ get_or b p (pos 0)

-- the product of the key's values at a + p and b + p
abbrev pub product_at : (key : List ℤ) (a b p : ℕ) → ℤ
product_at key a b p = get_or key (a + p) (pos 0) *ℤ get_or key (b + p) (pos 0)

-- the terms of the inner product of rotations i and j, in a half
abbrev pub terms : (key : List ℤ) (n base i j p : ℕ) → ℤ
terms key n base i j p = term_at key n base p i *ℤ term_at key n base p j

-- values whose first n are those of f, and none larger than a bound
pub record Holds (f : ℕ → ℤ) (bound : ℕ) (values : List ℤ) (n : ℕ) : Type 0 where
  pub at : (j : ℕ) → j < n → get_or values j (pos 0) ≡ f j
  pub small : (j : ℕ) → nat_abs (get_or values j (pos 0)) ≤ bound

-- the largest size of an entry of the table: 1,024 products of each half, of 7 and 7
abbrev pub entry_bound : ℕ
entry_bound = 100352

-- and of a row sum
abbrev pub row_sum_bound : ℕ
row_sum_bound = 64 * entry_bound

-- row i of the table is held
abbrev pub HoldsRow : (key : List ℤ) (n i : ℕ) (row : List ℤ) → Type 0
HoldsRow key n i row = Holds (table key n i) entry_bound row n

-- minus the last value of a row, and then the row
abbrev pub turned : (row : List ℤ) → List ℤ
turned row = neg_ℤ (get_or row (length row - 1) (pos 0)) ∷ row

-- a row moved on by one place, with minus its last value in front
pub record MovedOn (row row' : List ℤ) : Type 0 where
  pub size : length row' ≡ length row
  pub on : (j : ℕ) → j < length row → get_or row' j (pos 0) ≡ get_or (turned row) j (pos 0)
