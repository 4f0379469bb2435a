-- What the entries of a response tell: how many they are, and the degree, the bit and the challenge. Assumes nothing.
use mathlib.Core.Path.{◌≡◌, refl, sym, ap, ◌∙◌}
use mathlib.Core.Bool.{Bool, true}
use mathlib.Core.List.{List, ◌++◌, append_assoc, head-eq_of_cons-eq, tail-eq_of_cons-eq}
use Prim.Native.Nat.{ℕ, ◌+◌, ◌*◌, ◌≤◌}
use native.Mathlib.Omega.{arith}
use lib.ListN.{length, get_or, length-append}
use Rattle.arithmetic.proofs.Bits.{bit_injective}
use Rattle.read_list.specs.Entries.{entry, places_up, places_down}
use Rattle.read_list.proofs.Parts.{parts_of_one_length, parts_by_kind}
use Rattle.challenge.specs.Challenge.{positions_below}
use Rattle.challenge_product.specs.Product.{product_entries}
use Rattle.challenge_product.proofs.ProductSizes.{length_product_entries}
use Rattle.challenge_product.proofs.ProductTells.{product_entries_from_8, product_tells}
use Rattle.acceptance.specs.Acceptance.{acceptance_entries}
use Rattle.response.specs.Response.{respond_entries}

-- ** How many they are

-- what a response lists after its product: its words, the polynomial table twice, and its bit
test_entries : Bool → List ℕ
test_entries accepted = places_up 2 0 3 ++ acceptance_entries accepted

length_test_entries : (accepted : Bool) → length (test_entries accepted) ≡ 46
unfolding test_entries acceptance_entries places_up places_down
length_test_entries accepted = refl

pub length_respond_entries : (n : ℕ) (accepted : Bool) (challenge : List ℕ)
    → length (respond_entries n accepted challenge) ≡ 2 * n * length challenge + 47
unfolding respond_entries test_entries
length_respond_entries n accepted challenge =
    omega (arith, length-append (product_entries n challenge) (test_entries accepted), length_product_entries n challenge, length_test_entries accepted)

-- ** What they tell

test_entries_tell : (b b' : Bool) (rest rest' : List ℕ) → test_entries b ++ rest ≡ test_entries b' ++ rest' → (b ≡ b') × (rest ≡ rest')
unfolding test_entries acceptance_entries places_up places_down
test_entries_tell b b' rest rest' h =
    let parts = parts_of_one_length (test_entries b) (test_entries b') rest rest' refl h in
    let last = ap (λ (l : List ℕ). get_or l 45 0) parts.0 in
    (bit_injective b b' (omega arith), parts.1)

-- at one degree; the entries of the product end where the entry of the first word stands
after_degree_tells : (n : ℕ) (b b' : Bool) (challenge challenge' rest rest' : List ℕ) → 1 ≤ n → positions_below n challenge ≡ true
    → positions_below n challenge' ≡ true
    → (product_entries n challenge ++ test_entries b) ++ rest ≡ (product_entries n challenge' ++ test_entries b') ++ rest'
    → (b ≡ b') × (challenge ≡ challenge') × (rest ≡ rest')
unfolding test_entries places_up
after_degree_tells n b b' challenge challenge' rest rest' h below below' e =
    let parts = parts_by_kind 8 (product_entries n challenge) (product_entries n challenge') (entry 2 0) (entry 2 0) _ _ (omega arith) (omega arith)
    (product_entries_from_8 n challenge) (product_entries_from_8 n challenge')
    (sym (append_assoc (product_entries n challenge) (test_entries b) rest) ∙ e ∙ append_assoc (product_entries n challenge') (test_entries b') rest') in
    let tested = test_entries_tell b b' rest rest' parts.1 in
    (tested.0, product_tells n challenge challenge' h below below' parts.0, tested.1)

pub respond_tells : (n m : ℕ) (b b' : Bool) (challenge challenge' rest rest' : List ℕ) → 1 ≤ n → positions_below n challenge ≡ true
    → positions_below m challenge' ≡ true
    → respond_entries n b challenge ++ rest ≡ respond_entries m b' challenge' ++ rest'
    → (n ≡ m) × (b ≡ b') × (challenge ≡ challenge') × (rest ≡ rest')
unfolding respond_entries test_entries
respond_tells n m b b' challenge challenge' rest rest' h below below' e =
    let first = head-eq_of_cons-eq e in
    let same : n ≡ m = omega arith in
    let k = after_degree_tells n b b' challenge challenge' rest rest' h below (rw same below')
    (tail-eq_of_cons-eq e ∙ ap (λ (d : ℕ). (product_entries d challenge' ++ test_entries b') ++ rest') (sym same)) in
    (same, k.0, k.1, k.2)
