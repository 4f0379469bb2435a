-- `arithmetic::low_bits` meets its contract: a mask of ones. Assumes nothing.
use mathlib.Core.Path.{◌≡◌}
use Prim.Native.Nat.{ℕ, ◌*◌, ◌-◌, ◌%◌, ◌^◌, ◌<◌}
use native.Mathlib.Nat.{mod-eq_of_lt}
use native.Mathlib.Omega.{arith}
use Rattle.std.proofs.Math.Pow.{pow-lt}
use Rattle.std.proofs.lemmas.Nat.{and_mask}
use Rattle.std.specs.Int.Bits.{bit_and}
use Rattle.arithmetic.proofs.low_bits.Goals as goal

masked : (word bits : ℕ) → bits < 64 → bit_and word (1 * 2 ^ bits % 2 ^ 64 - 1) ≡ word % 2 ^ bits
masked word bits h =
    let one : 1 * 2 ^ bits ≡ 2 ^ bits = omega arith in
    rw (one, mod-eq_of_lt (pow-lt {i = bits} {j = 64} h)) (and_mask word bits)

pub returns : goal.returns
returns g c = masked c.args.word g.row.BITS c.requires
