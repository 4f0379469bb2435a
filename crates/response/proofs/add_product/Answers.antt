-- `response::add_product` meets its contract: after i places z is the response up to there, and the product behind. Assumes nothing.
use mathlib.Core.Path.{◌≡◌, ap, ◌∙◌}
use mathlib.Core.Bool.{true}
use mathlib.Core.List.{List}
use Prim.Native.Nat.{ℕ, ◌+◌, ◌*◌, ◌%◌, ◌≤◌, ◌<◌}
use native.Mathlib.Omega.{arith}
use lib.Dec.{eqb}
use lib.ListN.{length, get_or, set}
use lib.IntN.{ℤ, pos, nat_abs, ◌+ℤ◌, ◌*ℤ◌}
use mir.Syntax.{w32, w64}
use mir.Val.{to_z, of_z}
use Rattle.signed.specs.Signs.{sign}
use Rattle.signed.specs.Vectors.{all_within}
use Rattle.signed.proofs.Signs.{fits_of_abs, read_back, times_sign}
use Rattle.signed.proofs.Vectors.{within_at}
use Rattle.challenge_product.specs.Product.{output_bound}
use Rattle.response.specs.Response.{noise_bound, response_bound, subtracts, response_of}
use Rattle.response.proofs.Passes.{length_response, response_at, response_within, norm_bound, Added, add_start, product_stands}
use Rattle.response.proofs.Passes.{norm_within, add_more, add_end}
use Rattle.response.proofs.add_product.Goals as goal

-- ** One turn, over plain variables

-- a number of at most 4,096 is read from its bits as it is
as_read : (x : ℤ) → nat_abs x ≤ 4096 → to_z w32 (of_z w32 x) ≡ x
as_read x h = read_back (fits_of_abs {w = w32} (omega arith))

-- what the function asks for
abbrev Asked : (y sc : List ℤ) → Type 0
Asked y sc = (length y ≡ length sc) × (length sc ≤ 2048) × (all_within noise_bound y ≡ true) × (all_within output_bound sc ≡ true)

module _ (word : ℕ) (y sc : List ℤ) {z : List ℤ} {norm : ℕ} {inner : ℤ} {i : ℕ} (asked : Asked y sc)
    (s : Added (response_of (subtracts word) y sc) sc z norm inner i) (inside : i < length sc) where
  lengths : length (response_of (subtracts word) y sc) ≡ length sc
  lengths = length_response (subtracts word) y sc asked.0

  y_small : nat_abs (get_or y i (pos 0)) ≤ noise_bound
  y_small = within_at noise_bound y asked.2 i

  product_small : nat_abs (get_or sc i (pos 0)) ≤ output_bound
  product_small = within_at output_bound sc asked.3 i

  value_small : nat_abs (get_or (response_of (subtracts word) y sc) i (pos 0)) ≤ response_bound
  value_small = within_at response_bound (response_of (subtracts word) y sc) (response_within (subtracts word) y sc asked.2 asked.3) i

  -- y and the product, as they are read
  y_read : to_z w32 (of_z w32 (get_or y i (pos 0))) ≡ get_or y i (pos 0)
  y_read = as_read _ (omega (arith, y_small))

  product_read : to_z w32 (of_z w32 (get_or z i (pos 0))) ≡ get_or sc i (pos 0)
  product_read = rw (product_stands lengths s inside) (as_read _ (omega (arith, product_small)))

  -- the value that is made of them is the response's, as it is read too
  value_read : (b : ℕ) (f v : ℤ) → b ≡ word % 2 → (f ≡ sign (eqb b 1)) × (nat_abs f ≤ 1)
      → v ≡ to_z w32 (of_z w32 (get_or y i (pos 0))) +ℤ (to_z w32 (of_z w32 (get_or z i (pos 0))) *ℤ to_z w32 (of_z w32 f))
      → to_z w32 (of_z w32 v) ≡ get_or (response_of (subtracts word) y sc) i (pos 0)
  value_read b f v eb ef ev =
      let f_read = as_read f (omega (arith, ef.1)) in
      let is = response_at (subtracts word) y sc i (omega (arith, asked.0)) inside in
      rw (ev, y_read, product_read, f_read, ef.0, eb, times_sign, ← is) (as_read _ (omega (arith, value_small)))

  -- the sum of squares stays within that of the whole, and so fits
  norm_small : norm + nat_abs (get_or (response_of (subtracts word) y sc) i (pos 0)) * nat_abs (get_or (response_of (subtracts word) y sc) i (pos 0)) ≤ 10647169 * 2048
  norm_small = omega (arith, norm_within lengths s inside, norm_bound (subtracts word) y sc asked.0 asked.2 asked.3, asked.1)

-- ** The goals

pub loop-i-init : goal.loop-i-init
loop-i-init c = add_start _ _

pub response_at-v-requires : goal.response_at-v-requires
response_at-v-requires c =
    let l = c.loop-i in
    let f = c.sign_of-sign.ensures.1 in (
      rw (y_read _ _ _ c.requires l.invariant c.loop-i-test.true) (y_small _ _ _ c.requires l.invariant c.loop-i-test.true),
      rw (product_read _ _ _ c.requires l.invariant c.loop-i-test.true) (product_small _ _ _ c.requires l.invariant c.loop-i-test.true),
      rw (as_read c.sign_of-sign.result (omega arith)) f,
    )

pub square-norm-requires : goal.square-norm-requires
square-norm-requires c =
    let v = c.response_at-v.ensures.1 in
    rw (as_read c.response_at-v.result (omega arith)) (omega arith)

pub overflow_add-norm : goal.overflow_add-norm
overflow_add-norm c =
    let l = c.loop-i in
    let v = value_read _ _ _ c.requires l.invariant c.loop-i-test.true _ _ _ c.low_bits.ensures c.sign_of-sign.ensures c.response_at-v.ensures.0 in
    record { fits = omega (arith, rw v at c.square-norm.ensures, norm_small _ _ _ c.requires l.invariant c.loop-i-test.true) }

pub plus_product-inner-requires : goal.plus_product-inner-requires
plus_product-inner-requires c =
    let l = c.loop-i in
    let v = c.response_at-v.ensures.1 in (
      omega (arith, l.invariant.inner_small, l.invariant.turns, c.requires.1),
      rw (as_read c.response_at-v.result (omega arith)) (omega arith),
      rw (product_read _ _ _ c.requires l.invariant c.loop-i-test.true)
          (omega (arith, product_small _ _ _ c.requires l.invariant c.loop-i-test.true)),
    )

pub loop-i-preserved : goal.loop-i-preserved
loop-i-preserved c =
    let l = c.loop-i in
    let lengths = length_response _ _ _ c.requires.0 in
    let v = value_read _ _ _ c.requires l.invariant c.loop-i-test.true _ _ _ c.low_bits.ensures c.sign_of-sign.ensures c.response_at-v.ensures.0 in
    let product = product_read _ _ _ c.requires l.invariant c.loop-i-test.true in
    add_more lengths l.invariant (omega (arith, l.invariant.size)) (value_small _ _ _ c.requires l.invariant c.loop-i-test.true)
    (product_small _ _ _ c.requires l.invariant c.loop-i-test.true)
    (ap (λ (x : ℤ). set l.z l.i x) v)
    (ap (λ (m : ℕ). l.norm + m) (rw v at c.square-norm.ensures))
    (read_back {w = w64} (record { sfits = c.plus_product-inner.type_inv }) ∙ (rw (v, product) at c.plus_product-inner.ensures))

pub returns : goal.returns
returns c =
    let all = add_end (length_response _ _ _ c.requires.0) c.loop-i.invariant (omega (arith, c.loop-i.invariant.size)) in
    record { sums = all.0; z_after = all.1 }
