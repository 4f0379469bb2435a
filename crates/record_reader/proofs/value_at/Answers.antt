-- `record_reader::value_at` meets its contract: the parts of the longest form. Assumes nothing.
use native.Mathlib.Omega.{arith}
use mathlib.Core.Path.{◌≡◌, sym, ap, ap₂, ◌∙◌}
use mathlib.Core.Bool.{Bool, not, ◌&&◌, ◌||◌}
use borrow.Author.Tests.{not-true, not-false}
use lib.Dec.{eqb, ltb}
use Prim.Native.Nat.{ℕ, ◌+◌, ◌-◌, ◌*◌, ◌/◌, ◌%◌, ◌^◌, ◌≤◌, ◌<◌}
use lib.Count.{count_leading_zeros}
use Rattle.bits.specs.Bits.{number, bit_at}
use Rattle.bits.proofs.Numbers.{number_below}
use Rattle.bits.proofs.Streams.{zeros_most}
use Rattle.signed.proofs.Signs.{read_back}
use Rattle.record.specs.Lengths.{packed_length}
use Rattle.record.specs.Record.{value_limit}
use Rattle.record.specs.Reading.{with_sign, zeros_at, size_at, value_at, is_value}
use Rattle.record.proofs.Forms.{packed_next}
use Rattle.record_reader.proofs.LongestForm.{Parts, parts, none_is}
use mir.Syntax.{w32}
use Rattle.record_reader.proofs.value_at.Goals as goal
use Rattle.record_reader.proofs.value_at.Goals.{After-number_at-form}

-- ** What is known of the number that is read

module _ (c : After-number_at-form) where
  abbrev stream : ℕ → Bool
  stream = bit_at c.args.bytes.now

  abbrev at : ℕ
  at = c.args.at

  found : Parts stream at c.number_at-form.result
  found = parts stream at c.number_at-form.result c.number_at-form.ensures

  zeros_is : count_leading_zeros 64 (c.number_at-form.result % 2 ^ 26) - 38 ≡ zeros_at stream at
  zeros_is = omega (arith, found.over)

  few : zeros_at stream at ≤ 26
  few = zeros_most stream (at + 8) 26

  low_small : number stream (at + 1) 7 < 2 ^ 7
  low_small = number_below stream (at + 1) 7

  size_is : c.number_at-form.result / 2 ^ 26 % 128 + 128 * (count_leading_zeros 64 (c.number_at-form.result % 2 ^ 26) - 38) ≡ size_at stream at
  size_is = rw (found.low, zeros_is)

-- ** What the code asks for

pub overflow_sub-zeros : goal.overflow_sub-zeros
overflow_sub-zeros c = omega (arith, (found (goal.at.overflow_sub-zeros c).After-number_at-form).over)

-- as the code tests that it is none
none : (c : After-number_at-form) → let size = c.number_at-form.result / 2 ^ 26 % 128 + 128 * (count_leading_zeros 64 (c.number_at-form.result % 2 ^ 26) - 38) in
    (ltb value_limit size || (eqb (c.number_at-form.result / 2 ^ 33) 1 && eqb size 0)) ≡ not (is_value (stream c) (at c))
none c = none_is (stream c) (at c) (size_is c) (found c).sign

pub returns-then-size-minus : goal.returns-then-size-minus
returns-then-size-minus c =
    let here = (goal.at.returns-then-size-minus c).After-number_at-form in
    rw (not-true _ (sym (none here) ∙ c.if-size-minus.true))

pub returns : goal.returns
unfolding value_at
returns c =
    let here = (goal.at.returns c).After-number_at-form in
    let right = not-false _ (sym (none here) ∙ c.if-size-minus.false) in
    let value = read_back {w = w32} (record { sfits = c.with_sign.type_inv }) ∙ c.with_sign.ensures ∙ ap₂ with_sign (found here).sign (size_is here) in
    let next = ap (at here +◌) (c.packed_length.ensures ∙ ap packed_length (size_is here)) ∙ packed_next (stream here) (at here) right in
    rw (right, value, next)
