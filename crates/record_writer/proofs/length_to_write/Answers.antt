-- `record_writer::length_to_write` meets its contract: a line of the table that is reached follows on lines whose tests hold. Assumes nothing.
use native.Mathlib.Omega.{arith}
use mathlib.Core.Path.{◌≡◌, refl, sym, ap₂}
use mathlib.Core.Bool.{true, ◌&&◌}
use Prim.Native.Nat.{ℕ}
use borrow.Author.Tests.{le-leb, lt-leb}
use Rattle.bits.specs.Items.{passes}
use Rattle.checks.specs.Checks.{is_degree, first_refusal}
use Rattle.checks.proofs.JoinedTests.{holds, fails}
use Rattle.checks.proofs.Lines.{Reached, leaves, goes_on}
use Rattle.challenge.specs.Challenge.{is_challenge}
use Rattle.record.specs.Record.{FieldSet, are_n, are_small}
use Rattle.record_writer.specs.Call.{write_tests, write_refusal}
use Rattle.record_writer.specs.Told.{lent, field_set}
use Rattle.record_writer.proofs.WriteAnswers.{passed}
use Rattle.record_writer.proofs.length_to_write.Goals as goal
use Rattle.record_writer.proofs.length_to_write.Goals.{Else-not-is_degree, Else-not-length_right, Else-not-challenge_right, Else-not-sizes_right}

-- each call reaches the first line
start : (f : FieldSet) (room : ℕ) → Reached (write_refusal f room) (write_tests f room)
unfolding write_refusal
start f room = record { told = refl }

-- ** Behind the tests

degree : (c : Else-not-is_degree) → is_degree c.args.told.now.n ≡ true
degree c = holds c.is_degree.ensures c.if-not-is_degree.false

lengths : (c : Else-not-length_right) → let a = c.args in
    (passes (are_n a.told.now.n) (lent a.told.now.z1) && passes (are_n a.told.now.n) (lent a.told.now.z2)) ≡ true
lengths c = holds (ap₂ ◌&&◌ c.length_right.ensures c.length_right-2.ensures) c.if-not-length_right.false

positions : (c : Else-not-challenge_right) → let a = c.args in passes (is_challenge a.told.now.n) (lent a.told.now.challenge) ≡ true
positions c = holds c.challenge_right.ensures c.if-not-challenge_right.false

sizes : (c : Else-not-sizes_right) → let a = c.args in
    (passes are_small (lent a.told.now.z1) && passes are_small (lent a.told.now.z2)) ≡ true
sizes c = holds (ap₂ ◌&&◌ c.sizes_right.ensures c.sizes_right-2.ensures) c.if-not-sizes_right.false

-- ** Refusal 1

pub returns-then-not-is_degree-clause-refusal : goal.returns-then-not-is_degree-clause-refusal
returns-then-not-is_degree-clause-refusal c =
    leaves (start _ _) (fails c.is_degree.ensures c.if-not-is_degree.true)

-- ** Refusal 2

pub returns-then-not-length_right-clause-refusal : goal.returns-then-not-length_right-clause-refusal
returns-then-not-length_right-clause-refusal c =
    let here = goal.at.returns-then-not-length_right-clause-refusal c in
    let fact = ap₂ ◌&&◌ c.length_right.ensures c.length_right-2.ensures in
    leaves (goes_on (start _ _) (degree here.Else-not-is_degree)) (fails fact c.if-not-length_right.true)

-- ** Refusal 6

pub returns-then-not-challenge_right-clause-refusal : goal.returns-then-not-challenge_right-clause-refusal
returns-then-not-challenge_right-clause-refusal c =
    let here = goal.at.returns-then-not-challenge_right-clause-refusal c in
    let a = c.args in
    let first = start (field_set a.told.now) a.room in
    let third = goes_on (goes_on first (degree here.Else-not-is_degree)) (lengths here.Else-not-length_right) in
    leaves third (fails c.challenge_right.ensures c.if-not-challenge_right.true)

-- ** Refusal 15

pub returns-then-not-sizes_right-clause-refusal : goal.returns-then-not-sizes_right-clause-refusal
returns-then-not-sizes_right-clause-refusal c =
    let here = goal.at.returns-then-not-sizes_right-clause-refusal c in
    let a = c.args in
    let first = start (field_set a.told.now) a.room in
    let third = goes_on (goes_on first (degree here.Else-not-is_degree)) (lengths here.Else-not-length_right) in
    let fact = ap₂ ◌&&◌ c.sizes_right.ensures c.sizes_right-2.ensures in
    leaves (goes_on third (positions here.Else-not-challenge_right)) (fails fact c.if-not-sizes_right.true)

-- ** Refusal 14

pub record_length-length-requires : goal.record_length-length-requires
record_length-length-requires c =
    let here = goal.at.record_length-length-requires c in
    passed _
    (degree here.Else-not-is_degree) (lengths here.Else-not-length_right)
    (positions here.Else-not-challenge_right) (sizes here.Else-not-sizes_right)

pub returns-then-room-length-clause-refusal : goal.returns-then-room-length-clause-refusal
returns-then-room-length-clause-refusal c =
    let here = goal.at.returns-then-room-length-clause-refusal c in
    let a = c.args in
    let first = start (field_set a.told.now) a.room in
    let third = goes_on (goes_on first (degree here.Else-not-is_degree)) (lengths here.Else-not-length_right) in
    let fifth = goes_on (goes_on third (positions here.Else-not-challenge_right)) (sizes here.Else-not-sizes_right) in
    leaves fifth (lt-leb _ _ (omega (arith, c.record_length-length.ensures)))

-- ** The length

pub returns-clause-refusal : goal.returns-clause-refusal
unfolding first_refusal
returns-clause-refusal c =
    let here = goal.at.returns-clause-refusal c in
    let a = c.args in
    let first = start (field_set a.told.now) a.room in
    let third = goes_on (goes_on first (degree here.Else-not-is_degree)) (lengths here.Else-not-length_right) in
    let fifth = goes_on (goes_on third (positions here.Else-not-challenge_right)) (sizes here.Else-not-sizes_right) in
    sym (goes_on fifth (le-leb _ _ (omega (arith, c.record_length-length.ensures)))).told

pub returns-clause-served : goal.returns-clause-served
returns-clause-served c =
    let here = goal.at.returns-clause-served c in
    passed _
    (degree here.Else-not-is_degree) (lengths here.Else-not-length_right)
    (positions here.Else-not-challenge_right) (sizes here.Else-not-sizes_right)
