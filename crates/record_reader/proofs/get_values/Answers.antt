-- `record_reader::get_values` meets its contract: each turn leaves the values that follow to be written. Assumes nothing.
use native.Mathlib.Omega.{arith}
use mathlib.Core.Path.{refl, sym, ap, ◌∙◌}
use lib.ListN.{length}
use Rattle.record_reader.proofs.Found.{found}
use Prim.Native.Nat.{ℕ, ◌<◌}
use lib.IntN.{ℤ}
use Rattle.bits.specs.Bits.{bit_at}
use Rattle.bits.proofs.Walking.{walk_step, walk_end, pass_step, passes_next, write_step, write_end}
use Rattle.signed.proofs.Signs.{read_back}
use Rattle.record.proofs.Forms.{next_most, value_fits}
use Rattle.record_reader.proofs.get_values.Goals as goal

pub unwrap-value-requires : goal.unwrap-value-requires
unwrap-value-requires c =
    let t = c.loop-x in
    let l : t.x-index < length c.args.z.now = omega arith in
    let right = passes_next _ _ _ _ l c.requires.right t.invariant.2 in
    rw (c.value_at.ensures, right)

pub loop-x-preserved : goal.loop-x-preserved
loop-x-preserved c =
    let t = c.loop-x in
    let l : t.x-index < length c.args.z.now = omega arith in
    let f = found (sym c.unwrap-value.ensures ∙ c.value_at.ensures) in
    let value = ap (λ (p : ℤ × ℕ). p.0) f.1 in
    let next = ap (λ (p : ℤ × ℕ). p.1) f.1 in
    rw (sym value, read_back (value_fits (bit_at c.args.bytes.now) t.place), sym next) (
      omega (arith, next_most (bit_at c.args.bytes.now) t.place),
      walk_step _ _ _ l t.invariant.1,
      pass_step _ _ _ _ l f.0 t.invariant.2,
      write_step _ _ _ _ _ l t.invariant.3,
    )

pub returns-clause-value : goal.returns-clause-value
returns-clause-value c = walk_end _ _ _ (omega arith) c.loop-x.invariant.1

pub returns-clause-z_after : goal.returns-clause-z_after
returns-clause-z_after c = write_end _ _ _ _ _ (omega arith) refl c.loop-x.invariant.3
