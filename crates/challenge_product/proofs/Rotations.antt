-- The challenge product is the sum of the products at its single positions, the rotations of the key; how they move on. Assumes nothing.
use mathlib.Core.Path.{◌≡◌, refl, sym, ap, ap₂, ◌∙◌}
use mathlib.Core.List.{List, [], ◌∷◌, ◌++◌}
use Prim.Native.Nat.{ℕ, zero, suc, ◌+◌, ◌≤◌, ◌<◌}
use native.Mathlib.Omega.{arith}
use native.Mathlib.Decide.{dec_le}
use lib.ListN.{get_or, replicate, replicate-append-replicate}
use lib.IntN.{ℤ, pos, neg_ℤ, ◌+ℤ◌, +ℤ_idr}
use Rattle.signed.specs.Vectors.{inner_product}
use Rattle.signed.proofs.InnerProducts.{plus_all, plus_append, inner_plus, inner_zeros}
use Rattle.challenge_product.specs.Product.{term_at, output_at, outputs_from, product}
use Rattle.challenge_product.proofs.ProductSizes.{length_outputs_from, length_product}
use Rattle.challenge_product.proofs.Modulo.{term_direct, term_wrapped}

-- ** The product as a sum

module _ (key : List ℤ) (n c : ℕ) (challenge : List ℕ) where
  outputs_plus : (base i count : ℕ)
      → outputs_from key n base (c ∷ challenge) i count ≡ plus_all (outputs_from key n base (c ∷ []) i count)
      (outputs_from key n base challenge i count)
  unfolding outputs_from plus_all output_at
  outputs_plus base i zero = refl
  outputs_plus base i (suc count) =
      ap₂ (λ (v : ℤ) (l : List ℤ). (v +ℤ output_at key n base i challenge) ∷ l) (sym (+ℤ_idr (term_at key n base i c)))
      (outputs_plus base (suc i) count)

  pub product_plus : product key n (c ∷ challenge) ≡ plus_all (product key n (c ∷ [])) (product key n challenge)
  unfolding product
  product_plus =
      ap₂ (λ (l m : List ℤ). l ++ m) (outputs_plus 0 0 n) (outputs_plus n 0 n)
      ∙ sym (plus_append (outputs_from key n 0 (c ∷ []) 0 n) (outputs_from key n 0 challenge 0 n) (outputs_from key n n (c ∷ []) 0 n)
      (outputs_from key n n challenge 0 n) (length_outputs_from key n 0 (c ∷ []) 0 n ∙ sym (length_outputs_from key n 0 challenge 0 n)))

-- the product of no positions is zero
outputs_none : (key : List ℤ) (n base i count : ℕ) → outputs_from key n base [] i count ≡ replicate count (pos 0)
unfolding outputs_from output_at
outputs_none key n base i zero = refl
outputs_none key n base i (suc count) = ap (λ (l : List ℤ). pos 0 ∷ l) (outputs_none key n base (suc i) count)

pub inner_product_none : (key : List ℤ) (n : ℕ) (w : List ℤ) → inner_product (product key n []) w ≡ pos 0
unfolding product
inner_product_none key n w =
    ap (λ (l : List ℤ). inner_product l w)
    (ap₂ (λ (l m : List ℤ). l ++ m) (outputs_none key n 0 0 n) (outputs_none key n n 0 n) ∙ replicate-append-replicate n n (pos 0))
    ∙ inner_zeros (n + n) w

-- one position more adds the inner product with its rotation
pub inner_product_more : (key : List ℤ) (n c : ℕ) (challenge : List ℕ) (w : List ℤ)
    → inner_product (product key n (c ∷ challenge)) w ≡ inner_product (product key n (c ∷ [])) w +ℤ inner_product (product key n challenge) w
inner_product_more key n c challenge w =
    ap (λ (l : List ℤ). inner_product l w) (product_plus key n c challenge)
    ∙ inner_plus (product key n (c ∷ [])) (product key n challenge) w (length_product key n (c ∷ []) ∙ sym (length_product key n challenge))

-- ** One rotation more

module _ (key : List ℤ) (n base : ℕ) where
  at : ℕ → ℤ
  at x = get_or key (base + x) (pos 0)

  -- output p + 1 of rotation c + 1 is output p of rotation c
  pub term_on : (p c : ℕ) → term_at key n base (suc p) (suc c) ≡ term_at key n base p c
  unfolding at
  term_on p c = by (dec_le c p)
    where
      by : Dec (c ≤ p) → term_at key n base (suc p) (suc c) ≡ term_at key n base p c
      by (yes h) = term_direct key n base (suc p) (suc c) (omega arith) ∙ ap at (omega arith) ∙ sym (term_direct key n base p c h)
      by (no h) =
          term_wrapped key n base (suc p) (suc c) (omega arith)
          ∙ ap (λ (x : ℕ). neg_ℤ (at x)) (omega arith)
          ∙ sym (term_wrapped key n base p c (omega arith))

  -- rotation n is rotation 0 with minus signs
  pub term_turned : (p : ℕ) → p < n → term_at key n base p n ≡ neg_ℤ (term_at key n base p 0)
  unfolding at
  term_turned p h =
      term_wrapped key n base p n h ∙ ap (λ (x : ℕ). neg_ℤ (at x)) (omega arith) ∙ ap neg_ℤ (sym (term_direct key n base p 0 (omega arith)))

-- output 0 of rotation c + 1 is minus the last output of rotation c
pub term_wraps : (key : List ℤ) (m base c : ℕ) → c ≤ m → term_at key (suc m) base 0 (suc c) ≡ neg_ℤ (term_at key (suc m) base m c)
unfolding at
term_wraps key m base c h =
    term_wrapped key (suc m) base 0 (suc c) (omega arith)
    ∙ ap (λ (x : ℕ). neg_ℤ (at key (suc m) base x)) (omega arith)
    ∙ ap neg_ℤ (sym (term_direct key (suc m) base m c h))
