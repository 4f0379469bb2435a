-- How large the challenge product is: the bounds of its outputs, and the lengths of it and of its entries. Assumes nothing.
use mathlib.Core.Path.{◌≡◌, refl, ap}
use mathlib.Core.Bool.{Bool, true, false, cond}
use mathlib.Core.List.{List, [], ◌∷◌}
use Prim.Native.Nat.{ℕ, zero, suc, ◌+◌, ◌*◌, ◌≤◌}
use native.Mathlib.Omega.{arith}
use lib.Dec.{leb}
use lib.ListN.{length, get_or, length-append}
use lib.IntN.{ℤ, pos, neg_ℤ, nat_abs}
use Rattle.signed.specs.Vectors.{all_within, square_sum}
use Rattle.signed.proofs.Signs.{abs_neg, abs_add}
use Rattle.signed.proofs.Vectors.{within_at, within_none, within_more, within_append, squares_within}
use Rattle.challenge.specs.Challenge.{most_positions}
use Rattle.challenge_product.specs.Product.{key_bound, output_bound, index_of, term_at, output_at, outputs_from, product, output_entries}
use Rattle.challenge_product.specs.Product.{output_entries_from, product_entries}

-- ** Bounds

pub term_within : (key : List ℤ) (n base i c bound : ℕ) → all_within bound key ≡ true → nat_abs (term_at key n base i c) ≤ bound
unfolding term_at
term_within key n base i c bound h = by (leb c i) (base + index_of n i c)
  where
    by : (direct : Bool) (place : ℕ) → nat_abs (cond direct (get_or key place (pos 0)) (neg_ℤ (get_or key place (pos 0)))) ≤ bound
    by true place = within_at bound key h place
    by false place = rw (abs_neg (get_or key place (pos 0))) (within_at bound key h place)

module _ (key : List ℤ) (n : ℕ) (h : all_within key_bound key ≡ true) where
  pub output_within : (base i : ℕ) (challenge : List ℕ) → nat_abs (output_at key n base i challenge) ≤ key_bound * length challenge
  unfolding output_at
  output_within base i [] = omega arith
  output_within base i (c ∷ challenge) =
      let sum = abs_add (term_at key n base i c) (output_at key n base i challenge) in
      omega (arith, sum, term_within key n base i c key_bound h, output_within base i challenge)

  outputs_within : (base : ℕ) (challenge : List ℕ) → length challenge ≤ most_positions → (i count : ℕ)
      → all_within output_bound (outputs_from key n base challenge i count) ≡ true
  unfolding outputs_from
  outputs_within base challenge l i zero = within_none output_bound
  outputs_within base challenge l i (suc count) =
      within_more output_bound (output_at key n base i challenge) (outputs_from key n base challenge (suc i) count)
      (omega (arith, output_within base i challenge)) (outputs_within base challenge l (suc i) count)

  pub product_within : (challenge : List ℕ) → length challenge ≤ most_positions → all_within output_bound (product key n challenge) ≡ true
  unfolding product
  product_within challenge l =
      within_append output_bound (outputs_from key n 0 challenge 0 n) (outputs_from key n n challenge 0 n)
      (outputs_within 0 challenge l 0 n) (outputs_within n challenge l 0 n)

-- ** Lengths

pub length_outputs_from : (key : List ℤ) (n base : ℕ) (challenge : List ℕ) (i count : ℕ)
    → length (outputs_from key n base challenge i count) ≡ count
unfolding outputs_from
length_outputs_from key n base challenge i zero = refl
length_outputs_from key n base challenge i (suc count) = ap suc (length_outputs_from key n base challenge (suc i) count)

pub length_product : (key : List ℤ) (n : ℕ) (challenge : List ℕ) → length (product key n challenge) ≡ 2 * n
unfolding product
length_product key n challenge =
    let first = outputs_from key n 0 challenge 0 n in
    let second = outputs_from key n n challenge 0 n in
    omega (arith, length-append first second, length_outputs_from key n 0 challenge 0 n, length_outputs_from key n n challenge 0 n)

pub length_output_entries : (n base i : ℕ) (challenge : List ℕ) → length (output_entries n base i challenge) ≡ length challenge
unfolding output_entries
length_output_entries n base i [] = refl
length_output_entries n base i (c ∷ challenge) = ap suc (length_output_entries n base i challenge)

pub length_output_entries_from : (n base : ℕ) (challenge : List ℕ) (i count : ℕ)
    → length (output_entries_from n base challenge i count) ≡ count * length challenge
unfolding output_entries_from
length_output_entries_from n base challenge i zero = omega arith
length_output_entries_from n base challenge i (suc count) =
    let both = length-append (output_entries n base i challenge) (output_entries_from n base challenge (suc i) count) in
    omega (arith, both, length_output_entries n base i challenge, length_output_entries_from n base challenge (suc i) count)

pub length_product_entries : (n : ℕ) (challenge : List ℕ) → length (product_entries n challenge) ≡ 2 * n * length challenge
unfolding product_entries
length_product_entries n challenge =
    let both = length-append (output_entries_from n 0 challenge 0 n) (output_entries_from n n challenge 0 n) in
    omega (arith, both, length_output_entries_from n 0 challenge 0 n, length_output_entries_from n n challenge 0 n)

-- ** The sum of squares of a half

pub half_bound : (key : List ℤ) (n base : ℕ) (challenge : List ℕ)
    → all_within key_bound key ≡ true → length challenge ≤ most_positions
    → square_sum (outputs_from key n base challenge 0 n) ≤ 200704 * n
half_bound key n base challenge h l =
    let all = outputs_from key n base challenge 0 n in
    omega (arith, squares_within output_bound all (outputs_within key n h base challenge l 0 n), length_outputs_from key n base challenge 0 n)
