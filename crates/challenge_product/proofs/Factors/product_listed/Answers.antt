-- `challenge_product::Factors::product_listed` meets its contract: both halves are the product. Assumes nothing.
use Prim.Native.Nat.{ℕ}
use native.Mathlib.Omega.{arith}
use Rattle.challenge_product.proofs.ProductSizes.{half_bound}
use Rattle.challenge_product.proofs.ProductByHalves.{both_summed, both_filled, both_listed}
use Rattle.challenge_product.proofs.Factors.product_listed.Goals as goal

pub overflow_add-result : goal.overflow_add-result
overflow_add-result c =
    let a = c.args in
    let f = c.args.self in
    let bound = λ (base : ℕ). half_bound a.self.key.now a.self.degree base a.self.challenge.now f.small f.few in
    record { fits = omega (arith, c.half-first.ensures.value, c.half-second.ensures.value, bound 0, bound a.self.degree, f.low) }

pub returns : goal.returns
returns c =
    let a = c.args in
    let first = c.half-first.ensures in
    let second = c.half-second.ensures in
    record {
      value = both_summed a.self.degree a.self.challenge.now a.self.key.now first.value second.value;
      z_after = both_filled a.self.degree a.self.challenge.now a.self.key.now a.z.now c.requires.0 first.z_after second.z_after;
      list_after = both_listed a.self.degree a.self.challenge.now a.list.now c.requires.1 first.list_after second.list_after;
    }
