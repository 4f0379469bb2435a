-- The challenge product is the same where the keys agree on its entries. Assumes nothing.
use mathlib.Core.Path.{◌≡◌, refl, ap₂}
use mathlib.Core.Bool.{Bool, true, false, cond}
use mathlib.Core.List.{List, [], ◌∷◌, ◌++◌}
use Prim.Native.Nat.{ℕ, zero, suc, ◌+◌, ◌-◌, ◌^◌, ◌≤◌, ◌<◌}
use native.Mathlib.Omega.{arith}
use lib.Dec.{leb}
use lib.IntN.{ℤ, neg_ℤ, ◌+ℤ◌}
use Rattle.read_list.specs.Agreement.{Lent, Agree}
use Rattle.read_list.proofs.Agreement.{agree_first, agree_rest, agree_head, agree_tail, same_key_value}
use Rattle.challenge_product.specs.Product.{index_of, term_at, output_at, outputs_from, product, output_entries, output_entries_from}
use Rattle.challenge_product.specs.Product.{product_entries}

index_at_most : (n i c : ℕ) → index_of n i c ≤ i + n
index_at_most n i c = by (leb c i)
  where
    by : (t : Bool) → cond t (i - c) (i + n - c) ≤ i + n
    by true = omega arith
    by false = omega arith

-- a half of the key, at places below 2 ^ 24
module _ {a b : Lent} (n base : ℕ) where
  same_output : (i : ℕ) (challenge : List ℕ) → base + (i + n) < 2 ^ 24 → Agree a b (output_entries n base i challenge)
      → output_at a.key n base i challenge ≡ output_at b.key n base i challenge
  unfolding output_at term_at output_entries
  same_output i [] h same = refl
  same_output i (c ∷ challenge) h same =
      let at = base + index_of n i c in
      ap₂ (λ (x y : ℤ). cond (leb c i) x (neg_ℤ x) +ℤ y)
      (same_key_value at (omega (arith, index_at_most n i c)) (agree_head same))
      (same_output i challenge h (agree_tail same))

  same_outputs : (challenge : List ℕ) (i count : ℕ) → base + (i + count + n) ≤ 2 ^ 24
      → Agree a b (output_entries_from n base challenge i count)
      → outputs_from a.key n base challenge i count ≡ outputs_from b.key n base challenge i count
  unfolding outputs_from output_entries_from
  same_outputs challenge i zero h same = refl
  same_outputs challenge i (suc count) h same =
      ap₂ ◌∷◌
      (same_output i challenge (omega arith) (agree_first (output_entries n base i challenge) _ same))
      (same_outputs challenge (suc i) count (omega arith) (agree_rest (output_entries n base i challenge) _ same))

pub same_product : {a b : Lent} (n : ℕ) (challenge : List ℕ) → n ≤ 1024 → Agree a b (product_entries n challenge)
    → product a.key n challenge ≡ product b.key n challenge
unfolding product product_entries
same_product n challenge h same =
    ap₂ ◌++◌
    (same_outputs n 0 challenge 0 n (omega arith) (agree_first (output_entries_from n 0 challenge 0 n) _ same))
    (same_outputs n n challenge 0 n (omega arith) (agree_rest (output_entries_from n 0 challenge 0 n) _ same))
