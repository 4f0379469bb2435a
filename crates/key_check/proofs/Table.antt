-- The table of inner products: A is the sum of its entries over pairs of positions; its rows move on by one place. Assumes nothing.
use mathlib.Core.Path.{◌≡◌, refl, sym, ap, ap₂, ◌∙◌}
use mathlib.Core.List.{List, [], ◌∷◌}
use Prim.Native.Nat.{ℕ, zero, suc, ◌+◌, ◌-◌, ◌≤◌, ◌<◌}
use native.Mathlib.Omega.{arith}
use lib.IntN.{ℤ, pos, neg_ℤ, ◌+ℤ◌, ◌*ℤ◌, +ℤ_idr, +ℤ_assoc, +ℤ_comm, neg_ℤ-+ℤ, neg_ℤ-neg_ℤ, *ℤ_comm}
use Rattle.signed.specs.Vectors.{inner_product, square_sum}
use Rattle.signed.proofs.Integers.{neg-*ℤ, neg-neg-*ℤ}
use Rattle.signed.proofs.InnerProducts.{inner_comm, inner_append, squares_inner}
use Rattle.challenge_product.specs.Product.{term_at, output_at, outputs_from, product}
use Rattle.challenge_product.proofs.ProductSizes.{length_outputs_from}
use Rattle.challenge_product.proofs.Rotations.{inner_product_none, inner_product_more, term_on, term_turned, term_wraps}
use Rattle.largest.specs.Largest.{sum_at}
use Rattle.key_check.specs.KeyCheck.{rotation, table}
use Rattle.key_check.specs.Rows.{sum_to, terms}

-- ** A as a sum over pairs of positions

sum_same : (f g : ℕ → ℤ) (places : List ℕ) → ((i : ℕ) → f i ≡ g i) → sum_at f places ≡ sum_at g places
unfolding sum_at
sum_same f g [] e = refl
sum_same f g (p ∷ places) e = ap₂ (λ (a b : ℤ). a +ℤ b) (e p) (sum_same f g places e)

inner_rotations : (key : List ℤ) (n : ℕ) (challenge : List ℕ) (w : List ℤ)
    → inner_product (product key n challenge) w ≡ sum_at (λ (i : ℕ). inner_product (rotation key n i) w) challenge
unfolding sum_at rotation
inner_rotations key n [] w = inner_product_none key n w
inner_rotations key n (c ∷ challenge) w =
    inner_product_more key n c challenge w
    ∙ ap (λ (z : ℤ). inner_product (product key n (c ∷ [])) w +ℤ z) (inner_rotations key n challenge w)

pub symmetric : (key : List ℤ) (n i j : ℕ) → table key n i j ≡ table key n j i
unfolding table
symmetric key n i j = inner_comm (rotation key n i) (rotation key n j)

pub squares_are : (key : List ℤ) (n : ℕ) (challenge : List ℕ)
    → pos (square_sum (product key n challenge)) ≡ sum_at (λ (i : ℕ). sum_at (table key n i) challenge) challenge
unfolding table
squares_are key n challenge =
    sym (squares_inner (product key n challenge))
    ∙ inner_rotations key n challenge (product key n challenge)
    ∙ sum_same (λ (i : ℕ). inner_product (rotation key n i) (product key n challenge))
    (λ (i : ℕ). sum_at (table key n i) challenge) challenge row
  where
    row : (i : ℕ) → inner_product (rotation key n i) (product key n challenge) ≡ sum_at (table key n i) challenge
    row i =
        inner_comm (rotation key n i) (product key n challenge)
        ∙ inner_rotations key n challenge (rotation key n i)
        ∙ sum_same (λ (j : ℕ). inner_product (rotation key n j) (rotation key n i)) (table key n i) challenge
        (λ j. inner_comm (rotation key n j) (rotation key n i))

-- ** Entries as sums of terms

pub sum_to_front : (f : ℕ → ℤ) (n : ℕ) → sum_to f (suc n) ≡ f 0 +ℤ sum_to (λ (p : ℕ). f (suc p)) n
unfolding sum_to
sum_to_front f zero = +ℤ_comm (pos 0) (f 0)
sum_to_front f (suc n) = ap (λ (z : ℤ). z +ℤ f (suc n)) (sum_to_front f n) ∙ +ℤ_assoc (f 0) (sum_to (λ (p : ℕ). f (suc p)) n) (f (suc n))

pub sum_to_same : (f g : ℕ → ℤ) (n : ℕ) → ((p : ℕ) → p < n → f p ≡ g p) → sum_to f n ≡ sum_to g n
unfolding sum_to
sum_to_same f g zero e = refl
sum_to_same f g (suc n) e = ap₂ (λ (a b : ℤ). a +ℤ b) (sum_to_same f g n (λ p h. e p (omega arith))) (e n (omega arith))

pub sum_to_neg : (f : ℕ → ℤ) (n : ℕ) → sum_to (λ (p : ℕ). neg_ℤ (f p)) n ≡ neg_ℤ (sum_to f n)
unfolding sum_to
sum_to_neg f zero = refl
sum_to_neg f (suc n) = ap (λ (z : ℤ). z +ℤ neg_ℤ (f n)) (sum_to_neg f n) ∙ sym (neg_ℤ-+ℤ (sum_to f n) (f n))

inner_halves : (key : List ℤ) (n base i j p count : ℕ)
    → inner_product (outputs_from key n base (i ∷ []) p count) (outputs_from key n base (j ∷ []) p count)
    ≡ sum_to (λ (t : ℕ). terms key n base i j (p + t)) count
unfolding outputs_from inner_product output_at sum_to
inner_halves key n base i j p zero = refl
inner_halves key n base i j p (suc count) =
    ap₂ (λ (a b : ℤ). a +ℤ b)
    (ap₂ (λ (a b : ℤ). a *ℤ b) (+ℤ_idr (term_at key n base p i)) (+ℤ_idr (term_at key n base p j)) ∙ ap (terms key n base i j) (plus_0 p))
    (inner_halves key n base i j (suc p) count
    ∙ sum_to_same (λ (t : ℕ). terms key n base i j (suc p + t)) (λ (t : ℕ). terms key n base i j (p + suc t)) count
    (λ t h. ap (terms key n base i j) (plus_suc p t)))
    ∙ sym (sum_to_front (λ (t : ℕ). terms key n base i j (p + t)) count)
  where
    plus_0 : (a : ℕ) → a ≡ a + 0
    plus_0 a = omega arith

    plus_suc : (a t : ℕ) → suc a + t ≡ a + suc t
    plus_suc a t = omega arith

half_is : (key : List ℤ) (n base i j count : ℕ)
    → inner_product (outputs_from key n base (i ∷ []) 0 count) (outputs_from key n base (j ∷ []) 0 count) ≡ sum_to (terms key n base i j) count
half_is key n base i j count =
    inner_halves key n base i j 0 count ∙ sum_to_same (λ (t : ℕ). terms key n base i j (0 + t)) (terms key n base i j) count
    (λ t h. ap (terms key n base i j) (zero_plus t))
  where
    zero_plus : (t : ℕ) → 0 + t ≡ t
    zero_plus t = omega arith

pub table_is : (key : List ℤ) (n i j : ℕ) → table key n i j ≡ sum_to (terms key n 0 i j) n +ℤ sum_to (terms key n n i j) n
unfolding table rotation product
table_is key n i j =
    inner_append (outputs_from key n 0 (i ∷ []) 0 n) (outputs_from key n 0 (j ∷ []) 0 n) (outputs_from key n n (i ∷ []) 0 n)
    (outputs_from key n n (j ∷ []) 0 n) (length_outputs_from key n 0 (i ∷ []) 0 n ∙ sym (length_outputs_from key n 0 (j ∷ []) 0 n))
    ∙ ap₂ (λ (a b : ℤ). a +ℤ b) (half_is key n 0 i j n) (half_is key n n i j n)

-- ** One row more

half_shifts : (key : List ℤ) (m base i j : ℕ) → i ≤ m → j ≤ m
    → sum_to (terms key (suc m) base (suc i) (suc j)) (suc m) ≡ sum_to (terms key (suc m) base i j) (suc m)
unfolding sum_to
half_shifts key m base i j a b =
    sum_to_front (terms key (suc m) base (suc i) (suc j)) m
    ∙ ap₂ (λ (x y : ℤ). x +ℤ y)
    (ap₂ (λ (x y : ℤ). x *ℤ y) (term_wraps key m base i a) (term_wraps key m base j b)
    ∙ neg-neg-*ℤ (term_at key (suc m) base m i) (term_at key (suc m) base m j))
    (sum_to_same (λ (p : ℕ). terms key (suc m) base (suc i) (suc j) (suc p)) (terms key (suc m) base i j) m
    (λ p g. ap₂ (λ (x y : ℤ). x *ℤ y) (term_on key (suc m) base p i) (term_on key (suc m) base p j)))
    ∙ +ℤ_comm (terms key (suc m) base i j m) (sum_to (terms key (suc m) base i j) m)

-- T(i + 1, j + 1) is T(i, j), also where i + 1 or j + 1 is n
pub table_on : (key : List ℤ) (n i j : ℕ) → i < n → j < n → table key n (suc i) (suc j) ≡ table key n i j
table_on key zero i j a b = absurd (omega arith)
table_on key (suc m) i j a b =
    table_is key (suc m) (suc i) (suc j)
    ∙ ap₂ (λ (x y : ℤ). x +ℤ y) (half_shifts key m 0 i j (omega arith) (omega arith))
    (half_shifts key m (suc m) i j (omega arith) (omega arith))
    ∙ sym (table_is key (suc m) i j)

*-neg : (a b : ℤ) → a *ℤ neg_ℤ b ≡ neg_ℤ (a *ℤ b)
*-neg a b = *ℤ_comm a (neg_ℤ b) ∙ neg-*ℤ b a ∙ ap neg_ℤ (*ℤ_comm b a)

half_turned : (key : List ℤ) (n base i : ℕ) → sum_to (terms key n base i n) n ≡ neg_ℤ (sum_to (terms key n base i 0) n)
half_turned key n base i =
    sum_to_same (terms key n base i n) (λ (p : ℕ). neg_ℤ (terms key n base i 0 p)) n
    (λ p h. ap (λ (z : ℤ). term_at key n base p i *ℤ z) (term_turned key n base p h)
    ∙ *-neg (term_at key n base p i) (term_at key n base p 0))
    ∙ sum_to_neg (terms key n base i 0) n

-- T(i, n) is minus T(i, 0)
table_turned : (key : List ℤ) (n i : ℕ) → table key n i n ≡ neg_ℤ (table key n i 0)
table_turned key n i =
    table_is key n i n
    ∙ ap₂ (λ (x y : ℤ). x +ℤ y) (half_turned key n 0 i) (half_turned key n n i)
    ∙ sym (neg_ℤ-+ℤ (sum_to (terms key n 0 i 0) n) (sum_to (terms key n n i 0) n))
    ∙ ap neg_ℤ (sym (table_is key n i 0))

-- the first entry of the next row is minus the last entry of this one
pub next_first : (key : List ℤ) (n i : ℕ) → i < n → table key n (suc i) 0 ≡ neg_ℤ (table key n i (n - 1))
next_first key zero i h = absurd (omega arith)
next_first key (suc m) i h =
    sym (neg_ℤ-neg_ℤ (table key (suc m) (suc i) 0))
    ∙ ap neg_ℤ (sym (table_turned key (suc m) (suc i)) ∙ table_on key (suc m) i m h (omega arith) ∙ ap (table key (suc m) i) (last m))
  where
    last : (a : ℕ) → a ≡ suc a - 1
    last a = omega arith
