-- The key check of request S-1, for challenges of just so many positions. Assumes nothing.
use Rattle.std.specs.Prelude.{Bool, cond, ◌&&◌, List, [], ◌∷◌, ℕ, ◌*◌, ltb, eqb, ℤ, pos, nat_abs, length}
use Rattle.std.specs.Int.Signed.{le_z}
use Rattle.signed.specs.Vectors.{all_within, inner_product}
use Rattle.checks.specs.Checks.{is_degree, Line, line, first_refusal}
use Rattle.largest.specs.Largest.{largest_sum}
use Rattle.challenge.specs.Challenge.{length_fits}
use Rattle.challenge_product.specs.Product.{product, key_bound}
use Rattle.acceptance.specs.Acceptance.{squares_limit}
use Rattle.key_check.specs.declared.KeyCheck.{KeyCheck}

-- ** The final sum

-- rotation j of the key: both halves times X ^ j modulo X ^ n + 1, which is the challenge product at the one position j
unfoldable pub rotation : (key : List ℤ) (n j : ℕ) → List ℤ
rotation key n j = product key n (j ∷ [])

-- T(i, j): the inner product of rotations i and j
unfoldable pub table : (key : List ℤ) (n i j : ℕ) → ℤ
table key n i j = inner_product (rotation key n i) (rotation key n j)

-- of row i the sum of the largest entries, with their signs, as many as the length
unfoldable pub row_sum : (key : List ℤ) (n count i : ℕ) → ℤ
row_sum key n count i = largest_sum (table key n i) n count

-- of the row sums the sum of the largest, as many
unfoldable pub final_sum : (key : List ℤ) (n count : ℕ) → ℤ
final_sum key n count = largest_sum (row_sum key n count) n count

-- ** The answer

-- whether a challenge of degree n can have so many positions: at least one, and not too many
abbrev pub is_length : (n count : ℕ) → Bool
is_length n count = ltb 0 count && length_fits n count

-- what it tests, in order
abbrev pub key_tests : (n : ℕ) (key : List ℤ) (count : ℕ) → List Line
key_tests n key count =
    line 1 (is_degree n)
    ∷ line 2 (eqb (length key) (2 * n))
    ∷ line 6 (is_length n count)
    ∷ line 10 (all_within key_bound key)
    ∷ line 13 (le_z (final_sum key n count) (pos squares_limit))
    ∷ []

-- the first refusal that applies, or 0
unfoldable pub key_refusal : (n : ℕ) (key : List ℤ) (count : ℕ) → ℕ
key_refusal n key count = first_refusal (key_tests n key count)

-- an answer, by its two numbers
abbrev pub answer : (refusal sum : ℕ) → KeyCheck
answer refusal sum = record { refusal = refusal; sum = sum }

-- a refusal and 0, or 0 and the final sum, which is never negative
unfoldable pub key_answer : (n : ℕ) (key : List ℤ) (count : ℕ) → KeyCheck
key_answer n key count = answer (key_refusal n key count) (cond (eqb (key_refusal n key count) 0) (nat_abs (final_sum key n count)) 0)
