-- `record_writer::put_value` meets its contract: the sign and the low bits, then the zeros and the one. Assumes nothing.
use native.Mathlib.Omega.{arith}
use mathlib.Core.Path.{◌≡◌, ap, ap₂, ◌∙◌}
use mathlib.Core.Bool.{Bool, true, false}
use mathlib.Core.List.{[], ◌∷◌, ◌++◌}
use Prim.Native.Nat.{ℕ, ◌+◌, ◌*◌, ◌/◌, ◌%◌}
use lib.IntN.{ℤ, pos, nat_abs}
use lib.ListN.{length, replicate}
use lib.Signed.{lt_z}
use mir.Syntax.{w32}
use mir.Val.{to_z, of_z, bool_byte}
use Rattle.bits.specs.Bits.{digits, put_bits}
use Rattle.bits.proofs.Numbers.{bit_below}
use Rattle.bits.proofs.Putting.{length_put}
use Rattle.signed.proofs.Signs.{read_back}
use Rattle.record.specs.Record.{negative}
use Rattle.record.specs.Lengths.{packed_length}
use Rattle.record.proofs.FieldSets.{length_value}
use Rattle.record.proofs.Lengths.{packed_value}
use Rattle.record_writer.proofs.WriteLaws.{below_zero, value_put}
use Rattle.record_writer.proofs.put_value.Goals as goal
use Rattle.record_writer.proofs.put_value.Goals.{After-unsigned_abs-size}

-- ** What is known behind the size

size : (c : After-unsigned_abs-size) → c.unsigned_abs-size.result ≡ nat_abs c.args.value
size c = c.unsigned_abs-size.ensures.value ∙ ap nat_abs (read_back c.ranges.value)

-- the sign, as it is tested
minus : (c : After-unsigned_abs-size) → lt_z (to_z w32 (of_z w32 c.args.value)) (pos 0) ≡ negative c.args.value
minus c = ap (λ (z : ℤ). lt_z z (pos 0)) (read_back c.ranges.value) ∙ below_zero c.args.value

-- ** What the code asks for

pub put_eight-requires : goal.put_eight-requires
put_eight-requires c =
    let sign = bit_below (lt_z (to_z w32 (of_z w32 c.args.value)) (pos 0)) in
    (omega (arith, sign), omega (arith, c.requires.2, length_value c.args.value))

pub put_one-requires : goal.put_one-requires
put_one-requires c =
    let size_is = size (goal.at.put_one-requires c).After-unsigned_abs-size in
    -- the page keeps its length
    let long = ap length c.put_eight.ensures ∙ length_put _ _ _ in (
      omega (arith, c.requires),
      omega (arith, size_is, c.requires.0),
      omega (arith, size_is, c.requires.2, length_value c.args.value, long),
    )

pub returns : goal.returns
returns c =
    let a = c.args in
    let here = (goal.at.returns c).After-unsigned_abs-size in
    let size_is = size here in
    let first = c.put_eight.ensures
    ∙ ap₂ (λ (b : Bool) (x : ℕ). put_bits a.page.now a.at (digits 8 (128 * bool_byte b + x % 128))) (minus here) size_is in (
      ap (a.at +◌) (c.packed_length.ensures ∙ ap packed_length size_is ∙ packed_value a.value c.requires.0),
      value_put a.page.now a.at a.value first
          (c.put_one.ensures ∙ ap (λ (x : ℕ). put_bits c.put_eight.new.page (a.at + 8) (replicate (x / 128) false ++ (true ∷ []))) size_is),
    )
