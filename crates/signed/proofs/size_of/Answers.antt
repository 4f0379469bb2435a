-- `signed::size_of` meets its contract: a number times its sign. Assumes nothing.
use Rattle.std.proofs.Common.{arith, ◌≡◌, pos, nat_abs, ◌*ℤ◌}
use Rattle.std.proofs.lemmas.Int.{ints}
use mir.Syntax.{w32, w64}
use mir.Val.{SFits}
use Rattle.signed.proofs.Signs.{fits_of_abs, read_back}
use Rattle.signed.proofs.size_of.Goals as goal
use Rattle.signed.proofs.size_of.Goals.{After-sign_of-sign}

value : (c : After-sign_of-sign) → c.args.value *ℤ c.sign_of-sign.result ≡ pos (nat_abs c.args.value)
value c = grind (arith, ints)

pub overflow_cast-result : goal.overflow_cast-result
overflow_cast-result c =
    let size = value (goal.at.overflow_cast-result c).After-sign_of-sign in
    let sign : SFits w32 c.sign_of-sign.result = record { sfits = c.sign_of-sign.type_inv } in
    let wide : SFits w64 c.sign_of-sign.result = omega (arith, ints) in
    let product : SFits w64 (c.args.value *ℤ c.sign_of-sign.result) = rw size (fits_of_abs (omega arith)) in
    rw (read_back sign, read_back wide, read_back c.ranges.value, read_back product, size) (tt, omega arith)
