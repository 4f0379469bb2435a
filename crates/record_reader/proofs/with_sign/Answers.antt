-- `record_reader::with_sign` meets its contract: a number times its sign. Assumes nothing.
use native.Mathlib.Omega.{arith}
use mathlib.Core.Path.{ap, ap₂, ◌∙◌}
use lib.IntN.{pos, ◌*ℤ◌}
use mir.Syntax.{w32}
use mir.ValLaws.{to_z_pos}
use Rattle.bits.proofs.Numbers.{bit_is_one}
use Rattle.signed.specs.Signs.{sign}
use Rattle.signed.proofs.Signs.{read_back, times_sign}
use Rattle.record_reader.proofs.with_sign.Goals as goal

pub times_sign-requires : goal.times_sign-requires
times_sign-requires c = (
  rw (to_z_pos w32 c.args.size (omega (arith, c.requires))) (omega (arith, c.requires)),
  rw (read_back {w = w32} (record { sfits = c.sign_of.type_inv })) c.sign_of.ensures.1,
)

pub returns : goal.returns
returns c =
    let a = c.args in
    read_back {w = w32} (record { sfits = c.times_sign.type_inv })
    ∙ c.times_sign.ensures
    ∙ ap₂ ◌*ℤ◌ (to_z_pos w32 a.size (omega (arith, c.requires))) (read_back {w = w32} (record { sfits = c.sign_of.type_inv }) ∙ c.sign_of.ensures.0 ∙ ap sign (bit_is_one a.minus))
    ∙ times_sign (pos a.size) a.minus
