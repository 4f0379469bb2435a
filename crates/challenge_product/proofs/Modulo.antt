-- The challenge product is the product modulo X ^ n + 1. Assumes nothing.
use mathlib.Core.Path.{◌≡◌, refl, sym, ap, ap₂, ◌∙◌}
use mathlib.Core.Bool.{Bool, true, false}
use mathlib.Core.List.{List, [], ◌∷◌, ◌++◌}
use Prim.Native.Nat.{ℕ, suc, ◌+◌, ◌-◌, ◌*◌, ◌≤◌, ◌<◌}
use native.Mathlib.Omega.{arith}
use lib.Dec.{leb}
use lib.ListN.{length, get_or}
use lib.IntN.{ℤ, pos, neg_ℤ, ◌+ℤ◌, ◌-ℤ◌, +ℤ_idl, +ℤ_idr, +ℤ_assoc, +ℤ_comm, neg_ℤ-+ℤ}
use borrow.Author.Tests.{leb-true, leb-false, le-leb, lt-leb, lt-ltb, le-ltb}
use Rattle.challenge_product.specs.Product.{term_at, output_at}
use Rattle.challenge_product.specs.Modulo.{shifted_at, coefficient_at, ProductModulo, OutputByOneMore}

-- ** One position

module _ (key : List ℤ) (n base k c : ℕ) where
  shifted_inside : c ≤ k → k < c + n → shifted_at key n base k c ≡ get_or key (base + (k - c)) (pos 0)
  unfolding shifted_at
  shifted_inside low high = rw (le-leb c k low) rw (lt-ltb k (c + n) high)

  shifted_before : k < c → shifted_at key n base k c ≡ pos 0
  unfolding shifted_at
  shifted_before h = rw (lt-leb c k h)

  shifted_behind : c + n ≤ k → shifted_at key n base k c ≡ pos 0
  unfolding shifted_at
  shifted_behind h = rw (le-leb c k (omega arith)) rw (le-ltb k (c + n) h)

module _ (key : List ℤ) (n base i c : ℕ) where
  pub term_direct : c ≤ i → term_at key n base i c ≡ get_or key (base + (i - c)) (pos 0)
  unfolding term_at
  term_direct h = rw (le-leb c i h)

  pub term_wrapped : i < c → term_at key n base i c ≡ neg_ℤ (get_or key (base + (i + n - c)) (pos 0))
  unfolding term_at
  term_wrapped h = rw (lt-leb c i h)

-- a position that does not wrap is met in X ^ i, and one that wraps in X ^ (i + n)
term_modulo : (key : List ℤ) (n base i c : ℕ) → i < n → c < n
    → term_at key n base i c ≡ shifted_at key n base i c -ℤ shifted_at key n base (i + n) c
term_modulo key n base i c hi hc = by (leb c i) refl
  where
    by : (direct : Bool) → leb c i ≡ direct → term_at key n base i c ≡ shifted_at key n base i c -ℤ shifted_at key n base (i + n) c
    by true e =
        let low = leb-true c i e in
        rw (shifted_behind key n base (i + n) c (omega arith))
        (term_direct key n base i c low ∙ sym (shifted_inside key n base i c low (omega arith)) ∙ sym (+ℤ_idr (shifted_at key n base i c)))
    by false e =
        let high = leb-false c i e in
        rw (shifted_before key n base i c high)
        (term_wrapped key n base i c high
        ∙ ap neg_ℤ (sym (shifted_inside key n base (i + n) c (omega arith) (omega arith)))
        ∙ sym (+ℤ_idl (neg_ℤ (shifted_at key n base (i + n) c))))

-- ** All positions

differences_add : (a b c d : ℤ) → (a -ℤ b) +ℤ (c -ℤ d) ≡ (a +ℤ c) -ℤ (b +ℤ d)
differences_add a b c d =
    let swap = ap (λ (x : ℤ). x +ℤ neg_ℤ d) (+ℤ_comm (neg_ℤ b) c) in
    +ℤ_assoc a (neg_ℤ b) (c +ℤ neg_ℤ d)
    ∙ ap (λ (x : ℤ). a +ℤ x) (sym (+ℤ_assoc (neg_ℤ b) c (neg_ℤ d)) ∙ swap ∙ +ℤ_assoc c (neg_ℤ b) (neg_ℤ d))
    ∙ sym (+ℤ_assoc a c (neg_ℤ b +ℤ neg_ℤ d))
    ∙ ap (λ (x : ℤ). (a +ℤ c) +ℤ x) (sym (neg_ℤ-+ℤ b d))

module _ (key : List ℤ) (n base : ℕ) where
  output_modulo : (i : ℕ) → i < n → (challenge : List ℕ) → ((k : ℕ) → k < length challenge → get_or challenge k 0 < n)
      → output_at key n base i challenge ≡ coefficient_at key n base i challenge -ℤ coefficient_at key n base (i + n) challenge
  unfolding output_at coefficient_at
  output_modulo i h [] below = refl
  output_modulo i h (c ∷ challenge) below =
      let one = term_modulo key n base i c h (below 0 (omega arith)) in
      let others = output_modulo i h challenge (λ k l. below (suc k) (omega arith)) in
      ap₂ (λ (a b : ℤ). a +ℤ b) one others
      ∙ differences_add (shifted_at key n base i c) (shifted_at key n base (i + n) c)
      (coefficient_at key n base i challenge) (coefficient_at key n base (i + n) challenge)

  no_coefficient : (k : ℕ) → 2 * n ≤ k → (challenge : List ℕ) → ((j : ℕ) → j < length challenge → get_or challenge j 0 < n)
      → coefficient_at key n base k challenge ≡ pos 0
  unfolding coefficient_at
  no_coefficient k far [] below = refl
  no_coefficient k far (c ∷ challenge) below =
      rw (shifted_behind key n base k c (omega (arith, below 0 (omega arith))))
      (+ℤ_idl (coefficient_at key n base k challenge) ∙ no_coefficient k far challenge (λ j l. below (suc j) (omega arith)))

pub product_modulo : ProductModulo
product_modulo key n base challenge below =
    (λ i h. output_modulo key n base i h challenge below, λ k far. no_coefficient key n base k far challenge below)

-- ** One position more

output_more : (key : List ℤ) (n base i : ℕ) (challenge : List ℕ) (c : ℕ)
    → output_at key n base i (challenge ++ (c ∷ [])) ≡ output_at key n base i challenge +ℤ term_at key n base i c
unfolding output_at
output_more key n base i [] c = +ℤ_idr (term_at key n base i c) ∙ sym (+ℤ_idl (term_at key n base i c))
output_more key n base i (d ∷ challenge) c =
    ap (λ (x : ℤ). term_at key n base i d +ℤ x) (output_more key n base i challenge c)
    ∙ sym (+ℤ_assoc (term_at key n base i d) (output_at key n base i challenge) (term_at key n base i c))

pub output_by_one_more : OutputByOneMore
unfolding output_at
output_by_one_more key n base i challenge c =
    let before = output_at key n base i challenge in
    let more = output_more key n base i challenge c in
    record {
      none = refl;
      direct = λ h. more ∙ ap (λ (x : ℤ). before +ℤ x) (term_direct key n base i c h);
      wrapped = λ h. more ∙ ap (λ (x : ℤ). before +ℤ x) (term_wrapped key n base i c h);
    }
