-- A response by the words of document 01 and request S-2. Assumes nothing.
use mathlib.Core.Path.{◌≡◌, refl, sym, ◌∙◌}
use mathlib.Core.Bool.{Bool, true, false, ◌&&◌, and-eq-true_iff}
use mathlib.Core.List.{List, ◌++◌}
use Prim.Native.Nat.{ℕ, ◌+◌, ◌*◌, ◌/◌, ◌%◌, ◌^◌, ◌<◌}
use native.Mathlib.Nat.{mul-le-mul_right}
use native.Mathlib.Numerals.{add-one}
use native.Mathlib.Omega.{arith}
use lib.Dec.{leb, ltb, eqb}
use lib.ListN.{length, get_or, get_or-append}
use lib.Seq.{drop_at, ext_get_or}
use lib.IntN.{ℤ, pos}
use borrow.Author.Tests.{leb-true, le-leb, ltb-true, lt-ltb, eq-eqb, ne_eqb, eqb-true, eqb-false}
use Rattle.arithmetic.specs.Words.{low62_of}
use Rattle.read_list.specs.Entries.{places_up}
use Rattle.signed.specs.Vectors.{square_sum, inner_product}
use Rattle.signed.proofs.Vectors.{first_within}
use Rattle.challenge_product.specs.Product.{product_entries}
use Rattle.challenge_product.specs.InOrder.{HalvesListed}
use Rattle.challenge_product.proofs.ProductSizes.{length_product_entries}
use Rattle.challenge_product.proofs.InOrder.{product_listed}
use Rattle.acceptance.specs.Acceptance.{first_exponent, second_exponent, cosh_passes, all_pass, accepts_by, acceptance_entries}
use Rattle.response.specs.Response.{subtracts, response_z, is_bounded, measures_of, response_bit, respond_entries}
use Rattle.response.specs.ByRule.{PlusOrMinus, ResponsePlusOrMinus, BitByTests, RespondLists}
use Rattle.response.proofs.Passes.{length_response, response_at}
use Rattle.response.proofs.RespondTells.{length_respond_entries}

-- ** z

pub response_plus_or_minus : ResponsePlusOrMinus
unfolding response_z
response_plus_or_minus y sc words l =
    let first = get_or words 0 0 in
    record {
      as_long = length_response (subtracts first) y sc (sym l) ∙ l;
      plus = λ e i h. rw (ne_eqb (first % 2) 1 (λ g. omega arith)) (response_at false y sc i h (omega arith));
      minus = λ e i h. rw (eq-eqb (first % 2) 1 e) (response_at true y sc i h (omega arith));
    }

-- there is one such z
pub plus_or_minus_one : (first : ℕ) (y sc z z' : List ℤ) → PlusOrMinus first y sc z → PlusOrMinus first y sc z' → z ≡ z'
plus_or_minus_one first y sc z z' p q = ext_get_or (pos 0) z z' (p.as_long ∙ sym q.as_long) (λ i h. by i (rw p.as_long at h) (eqb (first % 2) 1) refl)
  where
    by : (i : ℕ) → i < length y → (t : Bool) → eqb (first % 2) 1 ≡ t → get_or z i (pos 0) ≡ get_or z' i (pos 0)
    by i h true e = let one = eqb-true (first % 2) 1 e in p.minus one i h ∙ sym (q.minus one i h)
    by i h false e =
        let none : first % 2 ≡ 0 = let other = eqb-false (first % 2) 1 e in omega arith in
        p.plus none i h ∙ sym (q.plus none i h)

-- ** The bit

pub bit_by_tests : BitByTests
unfolding response_bit accepts_by all_pass cosh_passes measures_of is_bounded
bit_by_tests e n y sc words =
    let z = response_z y sc words in
    let a = leb (square_sum sc) 46225 in
    let b = leb (square_sum z) 165688384 in
    let first = ltb (low62_of (get_or words 1 0)) (e (first_exponent (square_sum sc))) in
    let e₂ = e (second_exponent (inner_product z sc)) in
    let cosh = ltb (low62_of (get_or words 2 0) * (2 ^ 62 + e₂ * e₂ / 2 ^ 62)) (e₂ * 2 ^ 63) in
    let bounded = is_bounded n z in
    let at_a = and-eq-true_iff a (b && (bounded && (first && cosh))) in
    let at_b = and-eq-true_iff b (bounded && (first && cosh)) in
    let at_bounded = and-eq-true_iff bounded (first && cosh) in
    let at_words = and-eq-true_iff first cosh in (
      λ h. let p = at_a.0 h in let q = at_b.0 p.1 in let r = at_bounded.0 q.1 in let w = at_words.0 r.1 in record {
        four = record {
          squares = leb-true _ _ p.0;
          others = record {
            norm = leb-true _ _ q.0;
            first_exponential = ltb-true _ _ w.0;
            second_exponential = ltb-true _ _ w.1;
          };
        };
        coefficients = (first_within 2100 n z).0 r.0;
      },
      λ t. let o = t.four.others in
          at_a.1 (
            le-leb _ _ t.four.squares,
            at_b.1 (
              le-leb _ _ o.norm,
              at_bounded.1 ((first_within 2100 n z).1 t.coefficients, at_words.1 (lt-ltb _ _ o.first_exponential, lt-ltb _ _ o.second_exponential)),
            ),
          ),
    )

-- ** The read list

-- what is listed behind the product moves none of its entries
product_with : (n : ℕ) (challenge more : List ℕ) → HalvesListed n challenge (product_entries n challenge ++ more)
product_with n challenge more =
    let entries = product_entries n challenge in
    let halves = product_listed n challenge in
    let l = length_product_entries n challenge in
    record {
      first = λ i k h g. rw (get_or-append entries more 0 (i * length challenge + k) (omega (arith, mul-le-mul_right (length challenge) h))) (halves.first i k h g);
      second = λ i k h g. rw (get_or-append entries more 0 ((n + i) * length challenge + k) (omega (arith, mul-le-mul_right (length challenge) h))) (halves.second i k h g);
    }

pub respond_lists : RespondLists
unfolding respond_entries acceptance_entries places_up
respond_lists n accepted challenge = record {
  count = length_respond_entries n accepted challenge;
  first = refl;
  key = product_with n challenge _;
  others = rw (add-one (2 * n * length challenge)) (drop_at (product_entries n challenge) _ (2 * n * length challenge) (length_product_entries n challenge));
}
