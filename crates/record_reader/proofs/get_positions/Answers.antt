-- `record_reader::get_positions` meets its contract: each turn leaves the positions that follow to be written. Assumes nothing.
use native.Mathlib.Omega.{arith}
use mathlib.Core.Path.{refl, sym, subst}
use Prim.Native.Nat.{ℕ, ◌+◌, ◌<◌}
use lib.ListN.{length, set}
use Rattle.bits.specs.Bits.{number, bit_at}
use Rattle.bits.proofs.Numbers.{number_below}
use Rattle.bits.proofs.Walking.{Written, write_step, write_end}
use Rattle.record.specs.Reading.{positions_at}
use Rattle.record_reader.proofs.get_positions.Goals as goal

pub overflow_cast-position : goal.overflow_cast-position
overflow_cast-position c =
    rw c.number_at.ensures (omega (arith, number_below (bit_at c.args.bytes.now) c.loop-position.place 16))

pub loop-position-preserved : goal.loop-position-preserved
loop-position-preserved c =
    let a = c.args in
    let s = bit_at a.bytes.now in
    let t = c.loop-position in
    let l : t.position-index < length a.challenge.now = omega arith in (
      omega arith,
      subst (λ (x : ℕ). Written (λ (p : ℕ). p + 16) a.at (length a.challenge.now) (λ (p : ℕ). number s p 16) a.challenge.now (set t.challenge t.position-index x) (t.place + 16) (t.position-index + 1))
          (sym c.number_at.ensures) (write_step _ _ _ _ _ l t.invariant.1),
    )

pub returns : goal.returns
unfolding positions_at
returns c = write_end _ _ _ _ _ (omega arith) refl c.loop-position.invariant.1
