-- What the entries of a challenge product tell: the challenge. Assumes nothing.
use mathlib.Core.Path.{◌≡◌, refl, sym, ap, ◌∙◌}
use mathlib.Core.Bool.{true}
use mathlib.Core.List.{List, [], ◌∷◌, ◌++◌, append_assoc}
use Prim.Native.Nat.{ℕ, zero, suc, ◌+◌, ◌-◌, ◌*◌, ◌≤◌, ◌<◌}
use native.Mathlib.Nat.{eq_of_mul-eq-mul_left, le_of_suc-le-suc, not-suc-le-zero}
use native.Mathlib.Omega.{arith}
use lib.Dec.{leb-suc-zero}
use lib.ListN.{length, get_or}
use lib.Seq.{ext_get_or}
use Rattle.read_list.specs.Entries.{entry}
use Rattle.read_list.proofs.Parts.{FromKind, from_kind_append, parts_of_one_length}
use Rattle.challenge.specs.Challenge.{positions_below}
use Rattle.challenge.proofs.Positions.{position_below}
use Rattle.challenge_product.proofs.ProductSizes.{length_output_entries, length_product_entries}
use Rattle.challenge_product.specs.Product.{index_of, output_entries, output_entries_from, product_entries}

-- ** Their kind

output_entries_from_8 : (n base i : ℕ) (challenge : List ℕ) → FromKind 8 (output_entries n base i challenge)
unfolding output_entries
output_entries_from_8 n base i [] = tt
output_entries_from_8 n base i (c ∷ challenge) = (omega arith, output_entries_from_8 n base i challenge)

outputs_from_8 : (n base : ℕ) (challenge : List ℕ) (i count : ℕ) → FromKind 8 (output_entries_from n base challenge i count)
unfolding output_entries_from
outputs_from_8 n base challenge i zero = tt
outputs_from_8 n base challenge i (suc count) =
    from_kind_append 8 (output_entries n base i challenge) (output_entries_from n base challenge (suc i) count)
    (output_entries_from_8 n base i challenge)
    (outputs_from_8 n base challenge (suc i) count)

pub product_entries_from_8 : (n : ℕ) (challenge : List ℕ) → FromKind 8 (product_entries n challenge)
unfolding product_entries
product_entries_from_8 n challenge =
    from_kind_append 8 (output_entries_from n 0 challenge 0 n) (output_entries_from n n challenge 0 n)
    (outputs_from_8 n 0 challenge 0 n)
    (outputs_from_8 n n challenge 0 n)

-- ** The challenge

-- output 0 uses index 0 for position 0, and n - c for any other position c
index_of_later : (n c : ℕ) → index_of n 0 (suc c) ≡ n - suc c
index_of_later n c = rw (leb-suc-zero c) (omega arith)

index_injective : (n c d : ℕ) → c < n → d < n → index_of n 0 c ≡ index_of n 0 d → c ≡ d
index_injective n zero zero hc hd e = refl
index_injective n zero (suc d) hc hd e = absurd (omega (arith, index_of_later n d))
index_injective n (suc c) zero hc hd e = absurd (omega (arith, index_of_later n c))
index_injective n (suc c) (suc d) hc hd e = omega (arith, index_of_later n c, index_of_later n d)

-- the entry of one position
pub output_entry_at : (n base i : ℕ) (challenge : List ℕ) (k : ℕ) → k < length challenge
    → get_or (output_entries n base i challenge) k 0 ≡ entry 8 (base + index_of n i (get_or challenge k 0))
unfolding output_entries
output_entry_at n base i [] k h = absurd (not-suc-le-zero h)
output_entry_at n base i (c ∷ challenge) zero h = refl
output_entry_at n base i (c ∷ challenge) (suc k) h = output_entry_at n base i challenge k (le_of_suc-le-suc h)

-- the entries of output 0 tell the challenge
output_0_tells : (n : ℕ) (challenge challenge' : List ℕ) → positions_below n challenge ≡ true → positions_below n challenge' ≡ true
    → length challenge ≡ length challenge'
    → output_entries n 0 0 challenge ≡ output_entries n 0 0 challenge' → challenge ≡ challenge'
output_0_tells n challenge challenge' below below' same e =
    ext_get_or 0 challenge challenge' same (λ k h.
    let h' : k < length challenge' = omega arith in
    let entries = sym (output_entry_at n 0 0 challenge k h) ∙ ap (λ (l : List ℕ). get_or l k 0) e ∙ output_entry_at n 0 0 challenge' k h' in
    index_injective n (get_or challenge k 0) (get_or challenge' k 0)
    (position_below n challenge k below h) (position_below n challenge' k below' h') (omega arith))

-- at one degree, the entries of a product tell the challenge
pub product_tells : (n : ℕ) (challenge challenge' : List ℕ) → 1 ≤ n → positions_below n challenge ≡ true → positions_below n challenge' ≡ true
    → product_entries n challenge ≡ product_entries n challenge' → challenge ≡ challenge'
unfolding product_entries output_entries_from
product_tells zero challenge challenge' h below below' e = absurd (omega arith)
product_tells (suc m) challenge challenge' h below below' e =
    let n = suc m in
    let lengths = sym (length_product_entries n challenge) ∙ ap length e ∙ length_product_entries n challenge' in
    let same = eq_of_mul-eq-mul_left (2 * n) (omega arith) (length challenge) (length challenge') lengths in
    let rest = output_entries_from n 0 challenge 1 m in
    let rest' = output_entries_from n 0 challenge' 1 m in
    let second = output_entries_from n n challenge 0 n in
    let second' = output_entries_from n n challenge' 0 n in
    output_0_tells n challenge challenge' below below' same
    (parts_of_one_length (output_entries n 0 0 challenge) (output_entries n 0 0 challenge') (rest ++ second) (rest' ++ second')
    (length_output_entries n 0 0 challenge ∙ same ∙ sym (length_output_entries n 0 0 challenge'))
    (sym (append_assoc (output_entries n 0 0 challenge) rest second) ∙ e ∙ append_assoc (output_entries n 0 0 challenge') rest' second')).0
