-- `response::response_at` meets its contract. Assumes nothing.
use mathlib.Core.Path.{◌≡◌, ap, ap₂, ◌∙◌}
use Prim.Native.Nat.{◌≤◌}
use native.Mathlib.Nat.{mul-le-mul}
use native.Mathlib.Omega.{arith}
use lib.IntN.{ℤ, nat_abs, ◌+ℤ◌, ◌*ℤ◌}
use Rattle.signed.proofs.Signs.{abs_add, abs_mul, read_back}
use Rattle.challenge_product.specs.Product.{output_bound}
use mir.Syntax.{w32}
use Rattle.response.proofs.response_at.Goals as goal
use Rattle.response.proofs.response_at.Goals.{After-times_sign}

pub times_sign-requires : goal.times_sign-requires
times_sign-requires c = rw (read_back c.ranges.sc, read_back c.ranges.sign) (omega (arith, c.requires.1), c.requires.2)

-- the product with its sign, and its size
turned : (c : After-times_sign) → c.times_sign.result ≡ c.args.sc *ℤ c.args.sign
turned c = c.times_sign.ensures ∙ ap₂ (λ (a b : ℤ). a *ℤ b) (read_back c.ranges.sc) (read_back c.ranges.sign)

turned_small : (c : After-times_sign) → nat_abs (c.args.sc *ℤ c.args.sign) ≤ output_bound
turned_small c = omega (arith, abs_mul c.args.sc c.args.sign, mul-le-mul c.requires.1 c.requires.2)

pub plus-requires : goal.plus-requires
plus-requires c =
    let here = (goal.at.plus-requires c).After-times_sign in
    rw (read_back c.ranges.y, read_back {w = w32} (record { sfits = c.times_sign.type_inv }), turned here) (omega (arith, turned_small here, c.requires.0))

pub returns : goal.returns
returns c =
    let here = (goal.at.returns c).After-times_sign in
    let value : c.plus.result ≡ c.args.y +ℤ (c.args.sc *ℤ c.args.sign) = c.plus.ensures ∙ ap₂ (λ (a b : ℤ). a +ℤ b) (read_back c.ranges.y) (read_back {w = w32} (record { sfits = c.times_sign.type_inv }) ∙ turned here) in
    rw (read_back {w = w32} (record { sfits = c.plus.type_inv })) (value, omega (arith, ap nat_abs value, abs_add c.args.y (c.args.sc *ℤ c.args.sign), turned_small here, c.requires.0))
