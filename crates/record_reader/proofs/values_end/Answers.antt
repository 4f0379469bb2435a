-- `record_reader::values_end` meets its contract: each turn leaves the values that follow to be tested. Assumes nothing.
use native.Mathlib.Omega.{arith}
use mathlib.Core.Path.{sym, ap}
use Prim.Native.Nat.{ℕ, ◌<◌}
use lib.IntN.{ℤ}
use Rattle.bits.specs.Bits.{bit_at}
use Rattle.bits.proofs.Walking.{walk_step, walk_end, pass_step, pass_fails, pass_end}
use Rattle.record.proofs.Forms.{next_most}
use Rattle.record_reader.proofs.Found.{found, not_found}
use Rattle.record_reader.proofs.values_end.Goals as goal

pub returns-in_err-next : goal.returns-in_err-next
returns-in_err-next c =
    let l : c.loop.counter < c.args.count = omega arith in
    rw (c.from_residual.ensures, sym (pass_fails _ _ _ _ l (not_found _ c.in_err-next.ensures) c.loop.invariant.2))

pub loop-preserved : goal.loop-preserved
loop-preserved c =
    let l : c.loop.counter < c.args.count = omega arith in
    let f = found c.in_ok-next.ensures in
    let next = ap (λ (p : ℤ × ℕ). p.1) f.1 in
    rw (sym next) (
      omega (arith, next_most (bit_at c.args.bytes.now) c.loop.place, c.loop.invariant.0),
      walk_step _ _ _ l c.loop.invariant.1,
      pass_step _ _ _ _ l f.0 c.loop.invariant.2,
    )

pub returns : goal.returns
returns c =
    let t = c.loop in
    rw (sym (pass_end _ _ _ _ (omega arith) t.invariant.2), walk_end _ _ _ (omega arith) t.invariant.1)
