-- `signed::square` meets its contract: a square has no sign. Assumes nothing.
use Rattle.std.proofs.Common.{arith, ◌≤◌, nat_abs, ◌*◌}
use Rattle.std.proofs.Math.Nat.{mul-le-mul}
use Rattle.signed.proofs.Signs.{square_is, product_value}
use Rattle.signed.proofs.square.Goals as goal

pub overflow_cast-result : goal.overflow_cast-result
overflow_cast-result c =
    let value = c.ranges.value in
    let small : nat_abs c.args.value * nat_abs c.args.value ≤ 4096 * 4096 = mul-le-mul c.requires c.requires in
    rw (product_value value value (omega arith), square_is c.args.value) (tt, omega arith)
