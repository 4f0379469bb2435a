-- `bits::number_at` meets its contract: the bits stand in the window, behind those of the byte before the place. Assumes nothing.
use mathlib.Core.Path.{◌≡◌, ap, ap₂, ◌∙◌}
use Prim.Native.Nat.{ℕ, ◌+◌, ◌-◌, ◌*◌, ◌/◌, ◌%◌, ◌^◌}
use native.Mathlib.Omega.{arith}
use Rattle.bits.specs.Bits.{number, bit_at}
use Rattle.bits.proofs.Numbers.{shifted_one, number_part}
use Rattle.bits.proofs.number_at.Goals as goal

pub returns : goal.returns
returns c =
    let a = c.args in
    let s = bit_at a.bytes.now in
    let behind = 64 - a.at % 8 - a.width in
    let wide : 64 ≡ a.at % 8 + a.width + behind = omega arith in
    let place : 8 * (a.at / 8) + a.at % 8 ≡ a.at = omega arith in
    ap₂ (λ (x m : ℕ). x / 2 ^ behind % m) (c.window.ensures ∙ ap (number s (8 * (a.at / 8))) wide) (shifted_one a.width 64 (omega arith))
    ∙ number_part s (8 * (a.at / 8)) (a.at % 8) a.width behind
    ∙ ap (λ (i : ℕ). number s i a.width) place
