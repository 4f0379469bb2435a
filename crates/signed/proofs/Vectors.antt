-- Laws of ranges of vectors, and of sums over them. Assumes nothing.
use mathlib.Core.Path.{◌≡◌, refl}
use mathlib.Core.Bool.{true, and-eq-true_iff}
use mathlib.Core.List.{List, [], ◌∷◌, ◌++◌}
use mathlib.Core.Logic.{◌↔◌}
use Prim.Native.Nat.{ℕ, zero, suc, ◌+◌, ◌*◌, ◌≤◌, ◌<◌}
use native.Mathlib.Nat.{mul-le-mul, suc_inj}
use native.Mathlib.Omega.{arith}
use lib.Dec.{leb}
use lib.IntN.{ℤ, pos, nat_abs, ◌*ℤ◌}
use lib.ListN.{length, get_or, take, drop, replicate}
use lib.Seq.{get_or-take}
use borrow.Author.Tests.{leb-true, le-leb}
use Rattle.std.proofs.lemmas.Int.{ints}
use Rattle.signed.specs.Vectors.{all_within, square_sum, inner_product, SquaresByOneMore, ProductsByOneMore}
use Rattle.signed.proofs.Signs.{abs_add, abs_mul}

-- ** Ranges

-- the first value is within the bound, and the others are
pub within_parts : (bound : ℕ) (v : ℤ) (values : List ℤ) → all_within bound (v ∷ values) ≡ true
    → (nat_abs v ≤ bound) × (all_within bound values ≡ true)
unfolding all_within
within_parts bound v values h =
    let parts = (and-eq-true_iff (leb (nat_abs v) bound) (all_within bound values)).0 h in
    (leb-true (nat_abs v) bound parts.0, parts.1)

pub within_none : (bound : ℕ) → all_within bound [] ≡ true
unfolding all_within
within_none bound = refl

pub within_more : (bound : ℕ) (v : ℤ) (values : List ℤ) → nat_abs v ≤ bound → all_within bound values ≡ true
    → all_within bound (v ∷ values) ≡ true
unfolding all_within
within_more bound v values h g = rw (le-leb (nat_abs v) bound h, g)

pub zeros_within : (bound k : ℕ) → all_within bound (replicate k (pos 0)) ≡ true
zeros_within bound zero = within_none bound
zeros_within bound (suc k) = within_more bound (pos 0) (replicate k (pos 0)) (omega arith) (zeros_within bound k)

-- every value is within the bound, and so is what stands for values behind the last
pub within_at : (bound : ℕ) (values : List ℤ) → all_within bound values ≡ true → (i : ℕ) → nat_abs (get_or values i (pos 0)) ≤ bound
within_at bound [] h i = omega arith
within_at bound (v ∷ values) h zero = (within_parts bound v values h).0
within_at bound (v ∷ values) h (suc i) = within_at bound values (within_parts bound v values h).1 i

-- the first n values are, exactly when each of them is
pub first_within : (bound n : ℕ) (values : List ℤ)
    → (all_within bound (take n values) ≡ true) ↔ ((i : ℕ) → i < n → nat_abs (get_or values i (pos 0)) ≤ bound)
first_within bound n values = (λ h i g. rw (get_or-take n values i (pos 0) g) at (within_at bound (take n values) h i), all n values)
  where
    all : (n : ℕ) (values : List ℤ) → ((i : ℕ) → i < n → nat_abs (get_or values i (pos 0)) ≤ bound) → all_within bound (take n values) ≡ true
    all zero values h = within_none bound
    all (suc n) [] h = within_none bound
    all (suc n) (v ∷ values) h =
        within_more bound v (take n values) (h 0 (omega arith)) (all n values (λ i g. h (suc i) (omega arith)))

pub within_drop : (bound n : ℕ) (values : List ℤ) → all_within bound values ≡ true → all_within bound (drop n values) ≡ true
within_drop bound zero values h = h
within_drop bound (suc n) [] h = h
within_drop bound (suc n) (v ∷ values) h = within_drop bound n values (within_parts bound v values h).1

pub within_append : (bound : ℕ) (as' bs : List ℤ) → all_within bound as' ≡ true → all_within bound bs ≡ true
    → all_within bound (as' ++ bs) ≡ true
within_append bound [] bs h g = g
within_append bound (a ∷ as') bs h g =
    let parts = within_parts bound a as' h in
    within_more bound a (as' ++ bs) parts.0 (within_append bound as' bs parts.1 g)

-- ** The sum of squares

pub squares_within : (bound : ℕ) (values : List ℤ) → all_within bound values ≡ true → square_sum values ≤ bound * bound * length values
unfolding square_sum
squares_within bound [] h = omega arith
squares_within bound (v ∷ values) h =
    let parts = within_parts bound v values h in
    omega (arith, mul-le-mul parts.0 parts.0, squares_within bound values parts.1)

pub squares_zeros : (k : ℕ) → square_sum (replicate k (pos 0)) ≡ 0
squares_zeros k = omega (arith, squares_within 0 (replicate k (pos 0)) (zeros_within 0 k))

pub squares_append : (as' bs : List ℤ) → square_sum (as' ++ bs) ≡ square_sum as' + square_sum bs
unfolding square_sum
squares_append [] bs = omega arith
squares_append (a ∷ as') bs = omega (arith, squares_append as' bs)

pub squares_by_one_more : SquaresByOneMore
unfolding square_sum
squares_by_one_more values v = omega (arith, squares_append values (v ∷ []))

-- ** The sum of products

pub products_by_one_more : ProductsByOneMore
unfolding inner_product
products_by_one_more [] [] v w l = omega (arith, ints)
products_by_one_more [] (y ∷ b) v w l = absurd (omega arith)
products_by_one_more (x ∷ a) [] v w l = absurd (omega arith)
products_by_one_more (x ∷ a) (y ∷ b) v w l = omega (arith, ints, products_by_one_more a b v w (suc_inj l))

pub inner_within : (p q : ℕ) (a b : List ℤ) → all_within p a ≡ true → all_within q b ≡ true → nat_abs (inner_product a b) ≤ p * q * length b
unfolding inner_product
inner_within p q [] b h g = omega arith
inner_within p q (v ∷ a) [] h g = omega arith
inner_within p q (v ∷ a) (w ∷ b) h g =
    let ha = within_parts p v a h in
    let hb = within_parts q w b g in
    omega (arith, abs_add (v *ℤ w) (inner_product a b), abs_mul v w, mul-le-mul ha.0 hb.0, inner_within p q a b ha.1 hb.1)
