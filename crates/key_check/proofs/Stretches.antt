-- A half's inner product with its rotation as two stretches of products; the loop over a stretch. Assumes nothing.
use mathlib.Core.Path.{◌≡◌, refl, sym, ap, ap₂, ◌∙◌}
use mathlib.Core.List.{List, [], ◌∷◌}
use Prim.Native.Nat.{ℕ, zero, suc, ◌+◌, ◌-◌, ◌*◌, ◌≤◌, ◌<◌}
use native.Mathlib.Nat.{mul-le-mul}
use native.Mathlib.Omega.{arith}
use native.Mathlib.Numerals.{add-one}
use lib.ListN.{length, get_or, take, drop}
use Rattle.std.proofs.lemmas.List.{get_or-take, get_or-drop, length-take, length-drop}
use lib.IntN.{ℤ, pos, neg_ℤ, nat_abs, ◌+ℤ◌, ◌-ℤ◌, ◌*ℤ◌, +ℤ_idr, +ℤ_assoc, +ℤ_comm}
use Rattle.signed.proofs.Signs.{abs_add, abs_mul}
use Rattle.signed.proofs.Integers.{neg-*ℤ}
use Rattle.challenge_product.proofs.Modulo.{term_direct, term_wrapped}
use Rattle.key_check.specs.Rows.{AreSmall, sum_to, product_of, product_at, terms}
use Rattle.key_check.proofs.Table.{sum_to_same, sum_to_neg}

-- ** The loop

sum_to_none : (f : ℕ → ℤ) → sum_to f 0 ≡ pos 0
unfolding sum_to
sum_to_none f = refl

sum_to_more : (f : ℕ → ℤ) (p : ℕ) → sum_to f (p + 1) ≡ sum_to f p +ℤ f p
unfolding sum_to
sum_to_more f p = ap (sum_to f) (add-one p)

-- before a turn the sum is that of the first p products
pub record Summed (a b : List ℤ) (sum : ℤ) (p : ℕ) : Type 0 where
  pub total : sum ≡ sum_to (product_of a b) p
  pub few : nat_abs sum ≤ 49 * p

module _ (a b : List ℤ) (a_small : AreSmall a) (b_small : AreSmall b) where
  pub product_small : (p : ℕ) → nat_abs (product_of a b p) ≤ 49
  product_small p = rw (abs_mul (get_or a p (pos 0)) (get_or b p (pos 0))) (mul-le-mul (a_small p) (b_small p))

  pub summed_none : Summed a b (pos 0) 0
  summed_none = record { total = sym (sum_to_none (product_of a b)); few = omega arith }

  pub summed_more : (sum : ℤ) (p : ℕ) → Summed a b sum p → Summed a b (sum +ℤ product_of a b p) (p + 1)
  summed_more sum p s = record {
    total = ap (λ (x : ℤ). x +ℤ product_of a b p) s.total ∙ sym (sum_to_more (product_of a b) p);
    few = omega (arith, s.few, product_small p, abs_add sum (product_of a b p));
  }

-- ** The two stretches

sum_to_split : (f : ℕ → ℤ) (c m : ℕ) → sum_to f (c + m) ≡ sum_to f c +ℤ sum_to (λ (p : ℕ). f (c + p)) m
unfolding sum_to
sum_to_split f c zero = let none : c + 0 ≡ c = omega arith in ap (sum_to f) none ∙ sym (+ℤ_idr (sum_to f c))
sum_to_split f c (suc m) =
    let more : c + suc m ≡ suc (c + m) = omega arith in
    ap (sum_to f) more ∙ ap (λ (x : ℤ). x +ℤ f (c + m)) (sum_to_split f c m)
    ∙ +ℤ_assoc (sum_to f c) (sum_to (λ (p : ℕ). f (c + p)) m) (f (c + m))

module _ (key : List ℤ) (n base c : ℕ) (h : c < n) where
  at : ℕ → ℤ
  at x = get_or key x (pos 0)

  -- below place c the rotation wraps
  wrapped : (p : ℕ) → p < c → terms key n base c 0 p ≡ neg_ℤ (product_at key (base + (n - c)) base p)
  unfolding at
  wrapped p g =
      ap₂ (λ (x y : ℤ). x *ℤ y)
      (term_wrapped key n base p c g ∙ ap (λ (x : ℕ). neg_ℤ (at x)) (omega arith))
      (term_direct key n base p 0 (omega arith) ∙ ap at (omega arith))
      ∙ neg-*ℤ (at (base + (n - c) + p)) (at (base + p))

  direct : (p : ℕ) → terms key n base c 0 (c + p) ≡ product_at key base (base + c) p
  unfolding at
  direct p =
      ap₂ (λ (x y : ℤ). x *ℤ y)
      (term_direct key n base (c + p) c (omega arith) ∙ ap at (omega arith))
      (term_direct key n base (c + p) 0 (omega arith) ∙ ap at (omega arith))

  by_key :
      sum_to (product_at key base (base + c)) (n - c) -ℤ sum_to (product_at key (base + (n - c)) base) c ≡ sum_to (terms key n base c 0) n
  by_key =
      let behind = sum_to (product_at key base (base + c)) (n - c) in
      let before = sum_to (product_at key (base + (n - c)) base) c in
      +ℤ_comm behind (neg_ℤ before)
      ∙ sym (ap₂ (λ (x y : ℤ). x +ℤ y)
      (sum_to_same (terms key n base c 0) (λ (p : ℕ). neg_ℤ (product_at key (base + (n - c)) base p)) c wrapped
      ∙ sum_to_neg (product_at key (base + (n - c)) base) c)
      (sum_to_same (λ (p : ℕ). terms key n base c 0 (c + p)) (product_at key base (base + c)) (n - c) (λ p g. direct p)))
      ∙ sym (sum_to_split (terms key n base c 0) c (n - c))
      ∙ ap (sum_to (terms key n base c 0)) (omega arith)

-- the half as a list
module _ (key half : List ℤ) (n base c : ℕ) (h : c < n) (size : length half ≡ n)
    (same : (p : ℕ) → p < n → get_or half p (pos 0) ≡ get_or key (base + p) (pos 0)) where
  part_at : (m from p : ℕ) → p < m → from + p < n → get_or (take m (drop from half)) p (pos 0) ≡ get_or key (base + (from + p)) (pos 0)
  part_at m from p g k = get_or-take m (drop from half) p (pos 0) g ∙ get_or-drop from half p (pos 0) ∙ same (from + p) k

  front_at : (m p : ℕ) → p < m → p < n → get_or (take m half) p (pos 0) ≡ get_or key (base + p) (pos 0)
  front_at m p g k = get_or-take m half p (pos 0) g ∙ same p k

  pub half_by_stretches :
      sum_to (product_of (take (n - c) half) (take (length half - c) (drop c half))) (length (take (n - c) half))
      -ℤ sum_to (product_of (take (length half - (n - c)) (drop (n - c) half)) (take c half))
      (length (take (length half - (n - c)) (drop (n - c) half)))
      ≡ sum_to (terms key n base c 0) n
  half_by_stretches =
      let at : ℕ → ℤ = λ x. get_or key x (pos 0) in
      let first : length (take (n - c) half) ≡ n - c = omega (arith, length-take (n - c) half) in
      let second : length (take (length half - (n - c)) (drop (n - c) half)) ≡ c =
      omega (arith, length-take (length half - (n - c)) (drop (n - c) half), length-drop (n - c) half) in
      ap₂ (λ (x y : ℤ). x -ℤ y)
      (ap (sum_to (product_of (take (n - c) half) (take (length half - c) (drop c half)))) first
      ∙ sum_to_same (product_of (take (n - c) half) (take (length half - c) (drop c half))) (product_at key base (base + c)) (n - c)
      (λ p g. ap₂ (λ (x y : ℤ). x *ℤ y) (front_at (n - c) p g (omega arith))
      (part_at (length half - c) c p (omega arith) (omega arith) ∙ ap at (omega arith))))
      (ap (sum_to (product_of (take (length half - (n - c)) (drop (n - c) half)) (take c half))) second
      ∙ sum_to_same (product_of (take (length half - (n - c)) (drop (n - c) half)) (take c half)) (product_at key (base + (n - c)) base) c
      (λ p g. ap₂ (λ (x y : ℤ). x *ℤ y) (part_at (length half - (n - c)) (n - c) p (omega arith) (omega arith) ∙ ap at (omega arith))
      (front_at c p g (omega arith))))
      ∙ by_key key n base c h

-- ** Parts of small values

pub take_small : (n : ℕ) (values : List ℤ) → AreSmall values → AreSmall (take n values)
take_small zero values h j = omega arith
take_small (suc n) [] h j = omega arith
take_small (suc n) (v ∷ values) h zero = h 0
take_small (suc n) (v ∷ values) h (suc j) = take_small n values (λ k. h (suc k)) j

pub drop_small : (n : ℕ) (values : List ℤ) → AreSmall values → AreSmall (drop n values)
drop_small zero values h j = h j
drop_small (suc n) [] h j = omega arith
drop_small (suc n) (v ∷ values) h j = drop_small n values (λ k. h (suc k)) j
