-- `record_reader::is_record` meets its contract. Assumes nothing.
use native.Mathlib.Omega.{arith}
use mathlib.Core.Path.{◌≡◌, sym, ◌∙◌}
use mathlib.Core.Bool.{true}
use Prim.Native.Nat.{◌≤◌}
use Rattle.bits.specs.Bits.{bit_at}
use Rattle.record.specs.Reading.{fields_end, are_fields, is_record}
use Rattle.record_reader.proofs.Found.{found, not_found}
use Rattle.record_reader.proofs.Fields.{fields_end_most}
use Rattle.record_reader.proofs.is_record.Goals as goal
use Rattle.record_reader.proofs.is_record.Goals.{In-Some}

right : (c : In-Some) → are_fields (bit_at c.args.bytes.now) ≡ true
right c = (found (sym c.in-Some.is ∙ c.fields_end.ensures)).0

end_is : (c : In-Some) → c.in-Some.end ≡ fields_end (bit_at c.args.bytes.now)
end_is c = sym (found (sym c.in-Some.is ∙ c.fields_end.ensures)).1

end_small : (c : In-Some) → fields_end (bit_at c.args.bytes.now) ≤ 75792
end_small c = fields_end_most (bit_at c.args.bytes.now) (right c)

pub returns-in_default : goal.returns-in_default
unfolding is_record
returns-in_default c = rw (not_found _ (sym c.in_default.is ∙ c.fields_end.ensures))

pub number_at-padding-requires : goal.number_at-padding-requires
number_at-padding-requires c =
    let here = (goal.at.number_at-padding-requires c).In-Some in
    (omega (arith, end_is here, end_small here), omega arith, omega arith)

pub overflow_add-result : goal.overflow_add-result
overflow_add-result c =
    let here = (goal.at.overflow_add-result c).In-Some in
    omega (arith, end_is here, end_small here)

pub returns : goal.returns
unfolding is_record
returns c =
    let here = (goal.at.returns c).In-Some in
    rw (right here, c.number_at-others.ensures, c.number_at-padding.ensures, end_is here)
