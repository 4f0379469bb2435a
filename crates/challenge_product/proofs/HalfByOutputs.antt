-- A half of the challenge product, as its loop makes it: output by output. Assumes nothing.
use mathlib.Core.Path.{◌≡◌}
use mathlib.Core.List.{List}
use Prim.Native.Nat.{ℕ, suc, ◌+◌, ◌-◌, ◌*◌, ◌≤◌, ◌<◌}
use native.Mathlib.Nat.{add-suc}
use native.Mathlib.Numerals.{add-one}
use native.Mathlib.Omega.{arith}
use lib.ListN.{length, set}
use lib.Seq.{sets}
use lib.IntN.{ℤ, nat_abs}
use Rattle.signed.specs.Vectors.{square_sum}
use Rattle.read_list.proofs.Written.{sets_sets}
use Rattle.challenge_product.proofs.ProductSizes.{length_output_entries}
use Rattle.challenge_product.specs.Product.{output_at, outputs_from, output_entries, output_entries_from}

-- after i outputs: what is written, summed and listed, and what the others give, are the half's
pub record Halved (key : List ℤ) (n base : ℕ) (challenge : List ℕ) (z₀ : List ℤ) (list₀ : List ℕ)
    (z : List ℤ) (list : List ℕ) (squares i : ℕ) : Type 0 where
  pub turns : i ≤ n
  pub sum : squares + square_sum (outputs_from key n base challenge i (n - i)) ≡ square_sum (outputs_from key n base challenge 0 n)
  pub filled : sets z (base + i) (outputs_from key n base challenge i (n - i)) ≡ sets z₀ base (outputs_from key n base challenge 0 n)
  pub written : sets list (i * length challenge) (output_entries_from n base challenge i (n - i)) ≡ sets list₀ 0 (output_entries_from n base challenge 0 n)

module _ {key : List ℤ} {n base : ℕ} {challenge : List ℕ} {z₀ : List ℤ} {list₀ : List ℕ}
    {z : List ℤ} {list : List ℕ} {squares i : ℕ}
    (s : Halved key n base challenge z₀ list₀ z list squares i) where
  -- the sum so far is no more than the whole
  pub square_fits : i < n
      → squares + nat_abs (output_at key n base i challenge) * nat_abs (output_at key n base i challenge)
      ≤ square_sum (outputs_from key n base challenge 0 n)
  unfolding outputs_from square_sum
  square_fits h =
      let one : n - i ≡ suc (n - suc i) = omega arith in
      omega (arith, rw one at s.sum)

  pub half_more : {z' : List ℤ} {list' : List ℕ} {squares' : ℕ} → i < n
      → z' ≡ set z (base + i) (output_at key n base i challenge)
      → list' ≡ sets list (i * length challenge) (output_entries n base i challenge)
      → squares' ≡ squares + nat_abs (output_at key n base i challenge) * nat_abs (output_at key n base i challenge)
      → Halved key n base challenge z₀ list₀ z' list' squares' (i + 1)
  unfolding outputs_from output_entries_from square_sum
  half_more h ez el es =
      let one : n - i ≡ suc (n - suc i) = omega arith in
      let entries = output_entries n base i challenge in
      let others = output_entries_from n base challenge (suc i) (n - suc i) in
      let behind = sets_sets list (i * length challenge) (suc i * length challenge) entries others (omega (arith, length_output_entries n base i challenge)) in
      record {
        turns = omega arith;
        sum = rw (es, add-one i) (omega (arith, rw one at s.sum));
        filled = rw (ez, add-one i, add-suc base i) (rw one at s.filled);
        written = rw (el, add-one i, behind) (rw one at s.written);
      }

  pub half_end : n ≤ i
      → (squares ≡ square_sum (outputs_from key n base challenge 0 n))
      × ((z ≡ sets z₀ base (outputs_from key n base challenge 0 n))
      × (list ≡ sets list₀ 0 (output_entries_from n base challenge 0 n)))
  unfolding outputs_from output_entries_from square_sum
  half_end h =
      let none : n - i ≡ 0 = omega arith in
      (omega (arith, rw none at s.sum), (rw none at s.filled, rw none at s.written))
