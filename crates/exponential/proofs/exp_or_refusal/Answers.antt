-- `exponential::exp_or_refusal` meets its contract: the constant table is the polynomial table, and the constant is R. Assumes nothing.
use mathlib.Core.Path.{◌≡◌, refl, sym, ◌∙◌}
use Prim.Native.Nat.{ℕ, ◌≤◌}
use native.Mathlib.Omega.{arith}
use Rattle.exponential.specs.Exponential.{factorial, entries_from, polynomial, exp_scaled, exp, limit, exp_or_refusal}
use Rattle.exponential.proofs.Table.{by_215}
use Rattle.exponential.proofs.ByRule.{exponential_alone}
use Rattle.exponential.proofs.Steps.{exp_in_steps}
use Rattle.exponential.proofs.exp_or_refusal.Goals as goal

at_215 : (n : ℕ) → n ≤ limit → exp_scaled polynomial 3269134179596076729 n ≡ exp_or_refusal n
unfolding exp
at_215 n h = rw (by_215 polynomial) (sym ((exponential_alone n).up_to h))

pub returns-then-n-gt-LIMIT : goal.returns-then-n-gt-LIMIT
returns-then-n-gt-LIMIT c = sym ((exponential_alone c.args.n).above c.if-n-gt-LIMIT.true)

pub evaluate-a-requires : goal.evaluate-a-requires
unfolding polynomial entries_from factorial
evaluate-a-requires c = (refl, omega (arith, c.mul_shift22-v.ensures, c.if-n-gt-LIMIT.false), omega arith)

pub returns : goal.returns
unfolding polynomial entries_from factorial
returns c =
    let n = c.args.n in
    exp_in_steps polynomial 3269134179596076729 n c.mul_shift22-v.ensures c.evaluate-a.ensures.0 c.power64.ensures.0
    ∙ at_215 n c.if-n-gt-LIMIT.false
