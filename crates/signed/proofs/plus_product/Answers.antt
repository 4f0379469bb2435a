-- `signed::plus_product` meets its contract: the product fits 32 bits, and the sum 64. Assumes nothing.
use Rattle.std.proofs.Common.{arith, ◌≤◌, nat_abs, ◌*◌}
use Rattle.std.proofs.Math.Nat.{mul-le-mul}
use Rattle.std.proofs.lemmas.Int.{ints}
use Rattle.signed.proofs.Signs.{abs_mul, product_value}
use Rattle.signed.proofs.plus_product.Goals as goal

pub returns : goal.returns
returns c =
    let r = c.ranges in
    let small : nat_abs c.args.a * nat_abs c.args.b ≤ 4096 * 4096 = mul-le-mul c.requires.1 c.requires.2 in
    let size = abs_mul c.args.a c.args.b in
    rw (product_value r.a r.b (omega arith)) (omega (arith, ints))
