-- `attempt::exponent_of` meets its contract. Assumes nothing.
use mathlib.Core.Path.{ap}
use Prim.Native.Nat.{ℕ, ◌+◌, ◌*◌, ◌^◌, ◌≤◌, ◌<◌}
use native.Mathlib.Nat.{mul-le-mul}
use native.Mathlib.Omega.{arith}
use Rattle.exponential.specs.Exponential.{attempt_limit}
use Rattle.attempt.specs.Attempt.{exponent}
use Rattle.attempt.proofs.exponent_of.Goals as goal
use Rattle.attempt.proofs.exponent_of.Goals.{After-low_bits-b}

at_most : (x b : ℕ) → x ≤ 10 → b < 2 ^ 8 → b * (b + 512 * x) ≤ attempt_limit
at_most x b h g = mul-le-mul {n₁ = b} {m₁ = b + 512 * x} {n₂ = 255} {m₂ = 5375} (omega arith) (omega arith)

small : (c : After-low_bits-b) → c.low_bits-b.result * (c.low_bits-b.result + 512 * c.args.x) ≤ attempt_limit
small c = at_most c.args.x c.low_bits-b.result c.requires (omega (arith, c.low_bits-b.ensures))

pub overflow_mul-result-2 : goal.overflow_mul-result-2
overflow_mul-result-2 c = omega (arith, small (goal.at.overflow_mul-result-2 c).After-low_bits-b)

pub returns : goal.returns
returns c = (ap (λ (b : ℕ). exponent c.args.x b) c.low_bits-b.ensures, small (goal.at.returns c).After-low_bits-b)
