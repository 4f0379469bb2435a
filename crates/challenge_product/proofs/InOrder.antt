-- Where the outputs of the challenge product stand, and where their reads are listed. Assumes nothing.
use mathlib.Core.Path.{◌≡◌, sym, ap, ◌∙◌}
use mathlib.Core.List.{List, ◌++◌}
use Prim.Native.Nat.{ℕ, zero, suc, ◌+◌, ◌*◌, ◌<◌}
use native.Mathlib.Nat.{zero-add, zero-mul, add-zero, le_of_suc-le-suc, not-suc-le-zero, mul-le-mul_right}
use native.Mathlib.Omega.{arith}
use lib.ListN.{length, get_or, get_or-append}
use borrow.Author.Tests.{le-leb, lt-leb}
use lib.Seq.{get_or-append-add}
use lib.IntN.{ℤ, pos}
use Rattle.read_list.specs.Entries.{entry}
use Rattle.challenge_product.specs.Product.{index_of, output_at, outputs_from, product, output_entries, output_entries_from, product_entries}
use Rattle.challenge_product.specs.InOrder.{ProductHalves, IndexListed, ProductListed}
use Rattle.challenge_product.proofs.ProductTells.{output_entry_at}
use Rattle.challenge_product.proofs.ProductSizes.{length_outputs_from, length_product, length_output_entries, length_output_entries_from}

-- ** Outputs

outputs_at : (key : List ℤ) (n base : ℕ) (challenge : List ℕ) (start count i : ℕ) → i < count
    → get_or (outputs_from key n base challenge start count) i (pos 0) ≡ output_at key n base (start + i) challenge
unfolding outputs_from
outputs_at key n base challenge start zero i h = absurd (not-suc-le-zero h)
outputs_at key n base challenge start (suc count) zero h = rw (add-zero start)
outputs_at key n base challenge start (suc count) (suc i) h =
    outputs_at key n base challenge (suc start) count i (le_of_suc-le-suc h) ∙ ap (λ (j : ℕ). output_at key n base j challenge) (omega arith)

pub product_halves : ProductHalves
unfolding product
product_halves key n challenge =
    let s1 = outputs_from key n 0 challenge 0 n in
    let s2 = outputs_from key n n challenge 0 n in
    let l = length_outputs_from key n 0 challenge 0 n in
    record {
      both = length_product key n challenge;
      first = λ i h. get_or-append s1 s2 (pos 0) i (omega arith) ∙ half_at 0 i h;
      second = λ i h. ap (λ (m : ℕ). get_or (s1 ++ s2) (m + i) (pos 0)) (sym l) ∙ get_or-append-add s1 s2 i (pos 0) ∙ half_at n i h;
    }
  where
    half_at : (base i : ℕ) → i < n → get_or (outputs_from key n base challenge 0 n) i (pos 0) ≡ output_at key n base i challenge
    half_at base i h = outputs_at key n base challenge 0 n i h ∙ ap (λ (j : ℕ). output_at key n base j challenge) (zero-add i)

-- ** Entries

half_listed : (n base : ℕ) (challenge : List ℕ) (start count i k : ℕ) → i < count → k < length challenge
    → get_or (output_entries_from n base challenge start count) (i * length challenge + k) 0
    ≡ entry 8 (base + index_of n (start + i) (get_or challenge k 0))
unfolding output_entries_from
half_listed n base challenge start zero i k h g = absurd (not-suc-le-zero h)
half_listed n base challenge start (suc count) zero k h g =
    let here = output_entries n base start challenge in
    let others = output_entries_from n base challenge (suc start) count in
    let inside : k < length here = omega (arith, length_output_entries n base start challenge) in
    rw (zero-mul, zero-add k, add-zero start, get_or-append here others 0 k inside) (output_entry_at n base start challenge k g)
half_listed n base challenge start (suc count) (suc i) k h g =
    let here = output_entries n base start challenge in
    let others = output_entries_from n base challenge (suc start) count in
    let l = length_output_entries n base start challenge in
    let place : suc i * length challenge + k ≡ length here + (i * length challenge + k) = omega (arith, l) in
    ap (λ (m : ℕ). get_or (here ++ others) m 0) place
    ∙ get_or-append-add here others (i * length challenge + k) 0
    ∙ half_listed n base challenge (suc start) count i k (le_of_suc-le-suc h) g
    ∙ ap (λ (j : ℕ). entry 8 (base + index_of n j (get_or challenge k 0))) (omega arith)

index_listed : (n base i c : ℕ) {listed : ℕ} → listed ≡ entry 8 (base + index_of n i c) → IndexListed n base i c listed
index_listed n base i c e = record { direct = λ h. rw (le-leb c i h) at e; wrapped = λ h. rw (lt-leb c i h) at e }

pub product_listed : ProductListed
unfolding product_entries
product_listed n challenge =
    let s1 = output_entries_from n 0 challenge 0 n in
    let s2 = output_entries_from n n challenge 0 n in
    let l = length_output_entries_from n 0 challenge 0 n in
    record {
      first = λ i k h g.
          let inside : i * length challenge + k < length s1 = omega (arith, mul-le-mul_right (length challenge) h) in
          index_listed n 0 i (get_or challenge k 0)
          (get_or-append s1 s2 0 (i * length challenge + k) inside ∙ half_from_0 0 i k h g);
      second = λ i k h g.
          index_listed n n i (get_or challenge k 0)
          (ap (λ (m : ℕ). get_or (s1 ++ s2) m 0) (behind_first i k)
          ∙ get_or-append-add s1 s2 (i * length challenge + k) 0 ∙ half_from_0 n i k h g);
    }
  where
    half_from_0 : (base i k : ℕ) → i < n → k < length challenge
        → get_or (output_entries_from n base challenge 0 n) (i * length challenge + k) 0
        ≡ entry 8 (base + index_of n i (get_or challenge k 0))
    half_from_0 base i k h g =
        half_listed n base challenge 0 n i k h g ∙ ap (λ (j : ℕ). entry 8 (base + index_of n j (get_or challenge k 0))) (zero-add i)

    behind_first : (i k : ℕ) → (n + i) * length challenge + k ≡ length (output_entries_from n 0 challenge 0 n) + (i * length challenge + k)
    behind_first i k = omega (arith, length_output_entries_from n 0 challenge 0 n)
