-- One output of the challenge product, as its loop makes it: position by position. Assumes nothing.
use mathlib.Core.Path.{◌≡◌, sym, ◌∙◌}
use mathlib.Core.Bool.{true}
use mathlib.Core.List.{List, []}
use Prim.Native.Nat.{ℕ, suc, ◌+◌, ◌*◌, ◌≤◌, ◌<◌}
use native.Mathlib.Numerals.{add-one}
use native.Mathlib.Omega.{arith}
use lib.ListN.{length, get_or, set, drop}
use lib.Seq.{sets, drop-cons, drop-length}
use lib.IntN.{ℤ, nat_abs, ◌+ℤ◌, +ℤ_idr, +ℤ_assoc}
use Rattle.signed.specs.Vectors.{all_within}
use Rattle.signed.proofs.Signs.{abs_add}
use Rattle.read_list.specs.Entries.{entry}
use Rattle.challenge_product.proofs.ProductSizes.{term_within}
use Rattle.challenge_product.specs.Product.{key_bound, index_of, term_at, output_at, output_entries}

-- after k positions: the sum and what the others add are the output, and what is listed and what they list are its entries
pub record Summed (key : List ℤ) (n base i : ℕ) (challenge list₀ list : List ℕ) (sum : ℤ) (k : ℕ) : Type 0 where
  pub turns : k ≤ length challenge
  pub small : nat_abs sum ≤ key_bound * k
  pub total : sum +ℤ output_at key n base i (drop k challenge) ≡ output_at key n base i challenge
  pub written : sets list k (output_entries n base i (drop k challenge)) ≡ sets list₀ 0 (output_entries n base i challenge)

module _ {key : List ℤ} {n base i : ℕ} {challenge list₀ list : List ℕ} {sum : ℤ} {k : ℕ}
    (s : Summed key n base i challenge list₀ list sum k) where
  pub sum_more : {list' : List ℕ} {sum' : ℤ} → k < length challenge → all_within key_bound key ≡ true
      → list' ≡ set list k (entry 8 (base + index_of n i (get_or challenge k 0)))
      → sum' ≡ sum +ℤ term_at key n base i (get_or challenge k 0)
      → Summed key n base i challenge list₀ list' sum' (k + 1)
  unfolding output_at output_entries
  sum_more h small el es =
      let c = get_or challenge k 0 in
      let term = term_at key n base i c in
      let next = drop-cons challenge k 0 h in
      record {
        turns = omega arith;
        small = rw es (omega (arith, abs_add sum term, term_within key n base i c key_bound small, s.small));
        total = rw (es, add-one k) (+ℤ_assoc sum term (output_at key n base i (drop (suc k) challenge)) ∙ (rw next at s.total));
        written = rw (el, add-one k) (rw next at s.written);
      }

  pub sum_end : length challenge ≤ k
      → (sum ≡ output_at key n base i challenge) × (list ≡ sets list₀ 0 (output_entries n base i challenge))
  unfolding output_at output_entries
  sum_end h =
      let all : k ≡ length challenge = omega (arith, s.turns) in
      let none : drop k challenge ≡ [] = rw all (drop-length challenge) in
      (sym (+ℤ_idr sum) ∙ (rw none at s.total), rw none at s.written)
