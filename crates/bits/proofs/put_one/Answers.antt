-- `bits::put_one` meets its contract. Assumes nothing.
use mathlib.Core.Path.{◌≡◌, sym, ap, ◌∙◌}
use mathlib.Core.Bool.{true}
use mathlib.Core.List.{[], ◌∷◌}
use Prim.Native.Nat.{ℕ, ◌+◌, ◌*◌, ◌/◌, ◌%◌}
use native.Mathlib.Omega.{arith}
use Rattle.bits.specs.Bits.{put_bits}
use Rattle.bits.proofs.Putting.{put_zeros, add_one_bit}
use Rattle.bits.proofs.put_one.Goals as goal

pub returns : goal.returns
returns c =
    let a = c.args in
    let known = c.slice_known-1.given in
    let k = (a.at + a.zeros) / 8 in
    let r = (a.at + a.zeros) % 8 in
    let place : 8 * k + r ≡ a.at + a.zeros = omega arith in
    c.add_to_byte.ensures
    ∙ add_one_bit a.page.now k (omega arith) (omega (arith, known k)) r (omega arith)
    ∙ ap (λ (i : ℕ). put_bits a.page.now i (true ∷ [])) place
    ∙ sym (put_zeros a.page.now a.at a.zeros (true ∷ []) (λ i. omega (arith, known i)))
