-- `bits::put_eight` meets its contract: what the first byte still takes, and the rest. Assumes nothing.
use mathlib.Core.Path.{◌≡◌, ap, ◌∙◌}
use Prim.Native.Nat.{ℕ, ◌+◌, ◌-◌, ◌*◌, ◌/◌, ◌%◌, ◌^◌, ◌<◌}
use native.Mathlib.Nat.{lt_of_lt_of_le}
use native.Mathlib.Omega.{arith}
use lib.ListN.{length, get_or, set, length-set}
use lib.Pow.{shl_lt, shl_exact, pow_mono}
use Rattle.bits.specs.Bits.{digits, put_bits}
use Rattle.bits.proofs.Putting.{add_first, add_last, put_parts}
use Rattle.bits.proofs.put_eight.Goals as goal

-- ** What is added

-- the bits that are moved up to the second byte
moved_is : (x r : ℕ) → x < 256 → x * 2 ^ (8 - r) % 2 ^ 32 ≡ x * 2 ^ (8 - r)
moved_is x r h = shl_exact {a = x} 8 (8 - r) 32 (omega (arith, h)) (omega arith)

moved_below : (x r : ℕ) → x < 256 → r < 8 → x * 2 ^ (8 - r) % 2 ^ 32 < 2 ^ 16
moved_below x r h l =
    rw (moved_is x r h)
    (lt_of_lt_of_le (shl_lt {a = x} 8 (8 - r) (omega (arith, h))) (pow_mono {i = 8 + (8 - r)} {j = 16} (omega arith)))

-- ** What the code asks for

pub add_to_byte-requires-2 : goal.add_to_byte-requires-2
add_to_byte-requires-2 c =
    let a = c.args in
    let long : length c.add_to_byte.new.page ≡ length a.page.now = ap length c.add_to_byte.ensures ∙ length-set a.page.now (a.at / 8) _ in
    (omega (arith, long), moved_below a.x (a.at % 8) c.requires.0 (omega arith))

pub returns : goal.returns
returns c =
    let a = c.args in
    let k = a.at / 8 in
    let r = a.at % 8 in
    let p = c.add_to_byte.new.page in
    let place : 8 * k + r ≡ a.at = omega arith in
    let next : 8 * (k + 1) ≡ a.at + (8 - r) = omega arith in
    let eight : 8 - r + r ≡ 8 = omega arith in
    let long : length p ≡ length a.page.now = ap length c.add_to_byte.ensures ∙ length-set a.page.now k _ in
    let e : p ≡ put_bits a.page.now a.at (digits (8 - r) (a.x / 2 ^ r)) =
    c.add_to_byte.ensures
    ∙ add_first a.page.now k (omega (arith, c.requires.1)) (omega (arith, c.slice_known-1.given k)) r a.x (omega arith) c.requires.0
    ∙ ap (λ (i : ℕ). put_bits a.page.now i (digits (8 - r) (a.x / 2 ^ r))) place in
    let f : c.add_to_byte-2.new.page ≡ put_bits p (a.at + (8 - r)) (digits r a.x) =
    c.add_to_byte-2.ensures
    ∙ ap (λ (y : ℕ). set p (k + 1) ((get_or p (k + 1) 0 + y) % 256)) (moved_is a.x r c.requires.0)
    ∙ add_last p (k + 1) (omega (arith, long, c.requires.1)) (omega (arith, c.slice_known-2-1.given (k + 1))) r a.x (omega arith)
    ∙ ap (λ (i : ℕ). put_bits p i (digits r a.x)) next in
    put_parts a.page.now a.at (8 - r) r a.x e f ∙ ap (λ (n : ℕ). put_bits a.page.now a.at (digits n a.x)) eight
