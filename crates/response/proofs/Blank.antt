-- A response to the empty challenge. Assumes nothing.
use mathlib.Core.Path.{◌≡◌, refl, ◌∙◌}
use mathlib.Core.Bool.{Bool, true}
use mathlib.Core.List.{List, []}
use mathlib.Core.Logic.{◌↔◌}
use Prim.Native.Nat.{ℕ, ◌*◌, ◌^◌}
use native.Mathlib.Omega.{arith}
use lib.ListN.{length, get_or, replicate}
use lib.IntN.{ℤ, pos}
use Rattle.read_list.specs.Entries.{places_up, places_down}
use Rattle.signed.proofs.Vectors.{squares_zeros}
use Rattle.signed.proofs.InnerProducts.{inner_comm, inner_zeros}
use Rattle.challenge_product.specs.Product.{product}
use Rattle.challenge_product.proofs.EmptyChallenge.{product_of_none, entries_of_none}
use Rattle.acceptance.specs.Acceptance.{acceptance_entries}
use Rattle.response.specs.Response.{subtracts, response_z, response_bit, respond_entries}
use Rattle.response.specs.ByRule.{AllTestsPass}
use Rattle.response.specs.Blank.{BlankPasses, blank_entries}
use Rattle.response.proofs.Passes.{response_of_none}
use Rattle.response.proofs.ByRule.{bit_by_tests}

-- z is y, whatever the key and the words are
pub blank_z : (key : List ℤ) (n : ℕ) (y : List ℤ) (words : List ℕ) → length y ≡ 2 * n → response_z y (product key n []) words ≡ y
unfolding response_z
blank_z key n y words l = rw (product_of_none key n) (response_of_none (subtracts (get_or words 0 0)) y (2 * n) l)

-- ** The bit

-- over a product of zeros the tests of A and of the third word pass
tests_left : (e : ℕ → ℕ) → e 0 ≡ 2 ^ 62 → (n k : ℕ) (y : List ℤ) (second third : ℕ)
    → AllTestsPass e n (replicate k (pos 0)) y second third ↔ BlankPasses e n y second
tests_left e one n k y second third =
    let a = squares_zeros k in
    let i = inner_comm y (replicate k (pos 0)) ∙ inner_zeros k y in (
      λ t. let o = t.four.others in
          record { norm = o.norm; first_exponential = rw a at o.first_exponential; coefficients = t.coefficients },
      λ t. record {
        four = record {
          squares = rw a (omega arith);
          others = record {
            norm = t.norm;
            first_exponential = rw a t.first_exponential;
            second_exponential = rw (i, one) (omega arith);
          };
        };
        coefficients = t.coefficients;
      },
    )

-- the bit is 1 exactly when the others do, by any e that is one at 0
pub blank_bit : (e : ℕ → ℕ) → e 0 ≡ 2 ^ 62 → (key : List ℤ) (n : ℕ) (y : List ℤ) (words : List ℕ) → length y ≡ 2 * n
    → (response_bit e n y (product key n []) words ≡ true) ↔ BlankPasses e n y (get_or words 1 0)
blank_bit e one key n y words l =
    let z = blank_z key n y words l in
    let sc = product_of_none key n in
    let tests = bit_by_tests e n y (product key n []) words in
    let left = tests_left e one n (2 * n) y (get_or words 1 0) (get_or words 2 0) in
    (λ h. left.0 (rw (z, sc) at (tests.0 h)), λ p. tests.1 (rw (z, sc) (left.1 p)))

-- ** The read list

pub blank_list : (n : ℕ) (accepted : Bool) → respond_entries n accepted [] ≡ blank_entries n accepted
unfolding blank_entries respond_entries acceptance_entries places_up
blank_list n accepted = rw (entries_of_none n)

pub blank_count : (n : ℕ) (accepted : Bool) → length (blank_entries n accepted) ≡ 47
unfolding blank_entries places_down
blank_count n accepted = refl
