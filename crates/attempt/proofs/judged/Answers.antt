-- `attempt::judged` meets its contract: the size and the sign are those of the third word. Assumes nothing.
use mathlib.Core.Path.{◌≡◌, ap, ap₂, ◌∙◌}
use Prim.Native.Nat.{ℕ, ◌+◌, ◌*◌, ◌/◌, ◌%◌, ◌^◌, ◌≤◌, ◌<◌}
use native.Mathlib.Omega.{arith}
use lib.Dec.{eqb}
use lib.IntN.{ℤ, pos, ◌*ℤ◌}
use mir.Syntax.{w32}
use mir.Val.{to_z}
use mir.ValLaws.{to_z_pos}
use Rattle.signed.specs.Signs.{sign}
use Rattle.signed.proofs.Signs.{read_back, times_sign}
use Rattle.attempt.specs.Attempt.{sample}
use Rattle.attempt.proofs.judged.Goals as goal

-- the size is small, and read as it is
read_size : (x b : ℕ) → x ≤ 10 → b < 2 ^ 8 → to_z w32 (256 * x + b) ≡ pos (256 * x + b)
read_size x b h g = to_z_pos w32 (256 * x + b) (omega arith)

sample_is : (x third b s : ℕ) (g r : ℤ) → b ≡ third % 2 ^ 8 → s ≡ third / 2 ^ 8 % 2 → g ≡ sign (eqb s 1) → r ≡ pos (256 * x + b) *ℤ g
    → r ≡ sample x (third % 2 ^ 8) (eqb (third / 2 ^ 8 % 2) 1)
unfolding sample
sample_is x third b s g r eb es eg er = er ∙ ap (λ (z : ℤ). pos (256 * x + b) *ℤ z) eg ∙ times_sign (pos (256 * x + b)) (eqb s 1) ∙ rw (eb, es)

pub returns-clause-sample_after : goal.returns-clause-sample_after
returns-clause-sample_after c =
    let low = c.low_bits in
    let small : low.result < 2 ^ 8 = omega (arith, low.ensures) in
    let factors = ap₂ (λ (y z : ℤ). y *ℤ z) (read_size c.args.x low.result c.requires small) (read_back {w = w32} {z = c.sign_of.result} (record { sfits = c.sign_of.type_inv })) in
    read_back {w = w32} (record { sfits = c.times_sign.type_inv })
    ∙ sample_is c.args.x c.args.third low.result c.bit_at-sign.result _ _ low.ensures c.bit_at-sign.ensures c.sign_of.ensures.0 (c.times_sign.ensures ∙ factors)
