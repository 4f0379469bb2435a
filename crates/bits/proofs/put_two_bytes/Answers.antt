-- `bits::put_two_bytes` meets its contract. Assumes nothing.
use mathlib.Core.Path.{◌≡◌, ap, ◌∙◌}
use Prim.Native.Nat.{ℕ, ◌+◌, ◌*◌}
use native.Mathlib.Omega.{arith}
use Rattle.bits.specs.Bits.{digits, put_bits}
use Rattle.bits.proofs.Putting.{put_parts}
use Rattle.bits.proofs.put_two_bytes.Goals as goal

-- ** What the code asks for

pub returns : goal.returns
returns c =
    let a = c.args in
    let place : 8 * (a.k + 1) ≡ 8 * a.k + 8 = omega arith in
    put_parts a.page.now (8 * a.k) 8 8 a.x c.put_byte.ensures
    (c.put_byte-2.ensures ∙ ap (λ (i : ℕ). put_bits c.put_byte.new.page i (digits 8 a.x)) place)
