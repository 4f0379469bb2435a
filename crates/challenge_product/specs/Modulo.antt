-- The challenge product is the product of two polynomials modulo X ^ n + 1: of a half of the key,
-- s[0] + s[1] * X + .. + s[n - 1] * X ^ (n - 1), and of the challenge, the sum of X ^ c over its positions c. Assumes nothing.
use Rattle.std.specs.Prelude.{◌≡◌, cond, ◌&&◌, List, [], ◌∷◌, ◌++◌, ℕ, ◌+◌, ◌-◌, ◌*◌, ◌≤◌}
use Rattle.std.specs.Prelude.{◌<◌, leb, ltb, length, get_or, ℤ, pos, neg_ℤ, ◌+ℤ◌, ◌-ℤ◌}
use Rattle.challenge_product.specs.Product.{output_at}

-- the coefficient of X ^ k in a half times X ^ c
unfoldable pub shifted_at : (key : List ℤ) (n base k c : ℕ) → ℤ
shifted_at key n base k c = cond (leb c k && ltb k (c + n)) (get_or key (base + (k - c)) (pos 0)) (pos 0)

-- the coefficient of X ^ k in a half times the challenge
unfoldable pub coefficient_at : (key : List ℤ) (n base k : ℕ) (challenge : List ℕ) → ℤ
coefficient_at key n base k [] = pos 0
coefficient_at key n base k (c ∷ challenge) = shifted_at key n base k c +ℤ coefficient_at key n base k challenge

-- X ^ n is -1 modulo X ^ n + 1: output i is the coefficient of X ^ i less that of X ^ (i + n), and from X ^ (2n) on there is none
abbrev pub ProductModulo : Type 0
ProductModulo =
    (key : List ℤ) (n base : ℕ) (challenge : List ℕ) → ((k : ℕ) → k < length challenge → get_or challenge k 0 < n) →
    ((i : ℕ) → i < n →
    output_at key n base i challenge ≡ coefficient_at key n base i challenge -ℤ coefficient_at key n base (i + n) challenge)
    × ((k : ℕ) → 2 * n ≤ k → coefficient_at key n base k challenge ≡ pos 0)

-- of no position an output is 0, and a position c more at the end adds s[i - c] where i is at least c, else -s[i - c + n]
pub record OneMore (key : List ℤ) (n base i : ℕ) (challenge : List ℕ) (c : ℕ) : Type 0 where
  pub none : output_at key n base i [] ≡ pos 0
  pub direct : c ≤ i
      → output_at key n base i (challenge ++ (c ∷ [])) ≡ output_at key n base i challenge +ℤ get_or key (base + (i - c)) (pos 0)
  pub wrapped : i < c
      → output_at key n base i (challenge ++ (c ∷ []))
      ≡ output_at key n base i challenge +ℤ neg_ℤ (get_or key (base + (i + n - c)) (pos 0))

abbrev pub OutputByOneMore : Type 0
OutputByOneMore = (key : List ℤ) (n base i : ℕ) (challenge : List ℕ) (c : ℕ) → OneMore key n base i challenge c
