-- `exponential::power64` meets its contract. Assumes nothing.
use mathlib.Core.Path.{◌≡◌, ◌∙◌}
use Prim.Native.Nat.{◌-◌, ◌+◌}
use native.Mathlib.Omega.{arith}
use Rattle.exponential.proofs.Steps.{squarings_step, squarings_end}
use Rattle.exponential.proofs.power64.Goals as goal

pub loop-preserved : goal.loop-preserved
loop-preserved c =
    let t = c.loop in
    let e : 6 - (t.counter + 1) ≡ 6 - t.counter - 1 = omega arith in
    let step = squarings_step (6 - t.counter) t.a (omega arith) in
    (c.square-a.ensures.1, rw (e, c.square-a.ensures.0) (step ∙ t.invariant.1))

pub returns : goal.returns
returns c =
    let t = c.loop in
    (squarings_end (6 - t.counter) t.a (omega arith) ∙ t.invariant.1, t.invariant.0)
