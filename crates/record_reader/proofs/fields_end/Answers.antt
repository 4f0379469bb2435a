-- `record_reader::fields_end` meets its contract: what is found, field by field. Assumes nothing.
use native.Mathlib.Omega.{arith}
use mathlib.Core.Path.{◌≡◌, sym, ap, ap₂, ◌∙◌}
use Rattle.std.specs.Bool.{then_some}
use mathlib.Core.Bool.{Bool, true}
use Prim.Native.Nat.{◌≤◌}
use Rattle.bits.specs.Bits.{bit_at}
use Rattle.bits.specs.Items.{behind}
use Rattle.checks.specs.Checks.{is_degree}
use Rattle.checks.proofs.JoinedTests.{holds, fails}
use Rattle.checks.proofs.Degrees.{degree_range}
use Rattle.record.specs.Reading.{next_value, count_if, are_fields}
use Rattle.record.proofs.Forms.{behind_most}
use Rattle.record_reader.proofs.Found.{found, not_found}
use Rattle.record_reader.proofs.Fields.{Before, Between, count_most, z1_fails, by_z2, end_is}
use Rattle.record_reader.proofs.fields_end.Goals as goal
use Rattle.record_reader.proofs.fields_end.Goals.{Else-not-is_degree, After-count_if, In_ok-z2_start}

-- ** What is known behind the test of the degree, behind the count of z1, and behind z1

is_degree_lem : (c : Else-not-is_degree) → is_degree c.number_at-n.result ≡ true
is_degree_lem c = holds c.is_degree.ensures c.if-not-is_degree.false

before_z1 : (c : After-count_if) → Before (bit_at c.args.bytes.now) c.number_at-n.result c.z1_start.result c.count_if.result
before_z1 c =
    record {
      degree = c.number_at-n.ensures;
      is_degree_lem = holds c.is_degree.ensures c.if-not-is_degree.false;
      challenge = holds c.challenge_passes.ensures c.if-not-challenge_passes.false;
      start_is = c.z1_start.ensures.0;
      count_is = c.count_if.ensures ∙ ap (λ (b : Bool). count_if b c.number_at-n.result) c.bit_at.ensures;
    }

-- z1 has at most n values
few : (c : After-count_if) → c.count_if.result ≤ 1024
few c =
    let n = c.number_at-n.result in
    omega (arith, c.count_if.ensures, count_most c.bit_at.result n, degree_range n (before_z1 c).is_degree_lem)

behind_z1 : (c : In_ok-z2_start) → c.in_ok-z2_start.z2_start ≡ behind (next_value (bit_at c.args.bytes.now)) c.z1_start.result c.count_if.result
behind_z1 c = sym (found c.in_ok-z2_start.ensures).1

-- ** What the code asks for

pub returns-then-not-is_degree : goal.returns-then-not-is_degree
unfolding are_fields
returns-then-not-is_degree c =
    rw (sym c.number_at-n.ensures, fails c.is_degree.ensures c.if-not-is_degree.true)

pub returns-then-not-challenge_passes : goal.returns-then-not-challenge_passes
unfolding are_fields
returns-then-not-challenge_passes c =
    let d = is_degree_lem (goal.at.returns-then-not-challenge_passes c).Else-not-is_degree in
    let f = fails c.challenge_passes.ensures c.if-not-challenge_passes.true in
    rw (sym c.number_at-n.ensures, d, f)

pub values_end-requires : goal.values_end-requires
values_end-requires c = (omega (arith, c.z1_start.ensures.1), few (goal.at.values_end-requires c).After-count_if)

pub returns-in_err-z2_start : goal.returns-in_err-z2_start
returns-in_err-z2_start c =
    let w = z1_fails _ (before_z1 (goal.at.returns-in_err-z2_start c).After-count_if) (not_found _ c.in_err-z2_start.ensures) in
    rw (c.from_residual.ensures, w)

pub values_end-requires-2 : goal.values_end-requires-2
values_end-requires-2 c =
    let here = goal.at.values_end-requires-2 c in
    let n = c.number_at-n.result in
    let start = c.z1_start in
    let most = behind_most (bit_at c.args.bytes.now) start.result c.count_if.result in (
      omega (arith, behind_z1 here.In_ok-z2_start, most, start.ensures.1, few here.After-count_if),
      omega (arith, c.count_if-2.ensures, count_most c.bit_at-2.result n, degree_range n (is_degree_lem here.Else-not-is_degree)),
    )

pub returns : goal.returns
returns c =
    let here = goal.at.returns c in
    let s = bit_at c.args.bytes.now in
    let n = c.number_at-n.result in
    let b = before_z1 here.After-count_if in
    let m : Between s n c.z1_start.result c.count_if.result c.in_ok-z2_start.z2_start c.count_if-2.result = record {
      behind_z1 = behind_z1 here.In_ok-z2_start;
      more_is = c.count_if-2.ensures ∙ ap (λ (b : Bool). count_if b n) c.bit_at-2.ensures;
    } in
    c.values_end-2.ensures ∙ ap₂ then_some (by_z2 s b m (found c.in_ok-z2_start.ensures).0) (end_is s b m)
