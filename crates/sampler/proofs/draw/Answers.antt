-- `sampler::draw` meets its contract, full or spent: the loop's invariant is `Turn`. Assumes nothing.
use mathlib.Core.Path.{◌≡◌, ap, ◌∙◌}
use Prim.Native.Nat.{◌<◌, ◌*◌, ◌≤◌, ◌-◌}
use native.Mathlib.Omega.{arith}
use lib.Dec.{ltb}
use lib.ListN.{length, set, length-set}
use borrow.Author.Tests.{ltb-true}
use Rattle.checks.proofs.JoinedTests.{both_true}
use Rattle.read_list.proofs.InPart.{length_behind, written_in_part}
use Rattle.attempt.specs.Attempt.{attempt_entries}
use Rattle.attempt.proofs.AttemptLaws.{length_attempt}
use Rattle.sampler.specs.Draw.{draw_bits}
use Rattle.arithmetic.proofs.Bits.{bit_le}
use Rattle.sampler.proofs.DrawByAttempts.{turn_start, turn_more, turn_end}
use Rattle.sampler.proofs.WholeDraw.{full, spent}
use Rattle.sampler.proofs.draw.Goals as goal
use Rattle.sampler.proofs.draw.Goals.{In-loop-t}

-- ** Before the loop

pub loop-t-init : goal.loop-t-init
loop-t-init c = turn_start _ _ _ _ _ _

-- ** In the loop

-- the list after (1, n) has its length
same_list : (c : In-loop-t) → length c.loop-t.list ≡ length c.args.list.now
same_list c = c.loop-t.invariant.same_list ∙ length-set c.args.list.now _ _

-- the loop's test, as two facts
inside : (c : In-loop-t)
    → let s = c.args in (c.loop-t.t < s.limit) × (c.loop-t.k < 2 * s.degree)
inside c =
    let s = c.args in
    let t = c.loop-t in
    let both = both_true (ltb t.t s.limit) (ltb t.k (2 * s.degree)) c.loop-t-test.true in
    (ltb-true _ _ both.0, ltb-true _ _ both.1)

-- the list has room for one attempt more
room : (c : In-loop-t) → 46 ≤ length c.loop-t.list - c.loop-t.at
room c =
    let r = c.loop-t.invariant in
    omega (arith, (inside c).0, r.here, same_list c, c.requires.4)

pub attempt-accepted-requires : goal.attempt-accepted-requires
attempt-accepted-requires c =
    let s = c.requires in
    let r = c.loop-t.invariant in
    let b = inside (goal.at.attempt-accepted-requires c).In-loop-t in (
      omega (arith, b.0, s.1),
      omega (arith, b.0, s.2),
      omega (arith, b.1, r.same_y, s.3),
      omega (arith, b.1, s.0),
      rw length_behind (room (goal.at.attempt-accepted-requires c).In-loop-t),
    )

pub overflow_cast-k : goal.overflow_cast-k
overflow_cast-k c = tt

pub overflow_add-k : goal.overflow_add-k
overflow_add-k c =
    omega (arith, bit_le c.attempt-accepted.result, (inside (goal.at.overflow_add-k c).In-loop-t).1, c.requires.0)

pub loop-t-smaller : goal.loop-t-smaller
loop-t-smaller c = omega (arith, (inside (goal.at.loop-t-smaller c).In-loop-t).0)

pub loop-t-preserved : goal.loop-t-preserved
loop-t-preserved c =
    let here = (goal.at.loop-t-preserved c).In-loop-t in
    let y : 2 * c.args.degree ≤ length c.args.y.now = omega (arith, c.requires.3) in
    let made = c.attempt-accepted.ensures in
    let t = c.loop-t in
    let listed = written_in_part t.at _ t.list (attempt_entries t.t t.k) made.list_after (rw length_attempt (room here)) in
    turn_more t.invariant (inside here).0 (inside here).1 y made.value made.y_after listed

-- ** After the loop

pub zero_all-requires : goal.zero_all-requires
zero_all-requires c = tt

pub returns-then-k-want : goal.returns-then-k-want
unfolding draw_bits
returns-then-k-want c =
    let r = c.loop-t.invariant in
    spent c.args.degree c.args.tables.cdt.words.now c.args.words.now c.args.list.now
    (ap (set c.args.list.now 0) c.note.ensures)
    (turn_end r c.loop-t-test.false (ap (set c.loop-t.list c.loop-t.at) c.note-2.ensures))
    (r.same_y ∙ c.requires.3) c.if-k-want.true c.zero_all.ensures

pub returns-else-k-want : goal.returns-else-k-want
unfolding draw_bits
returns-else-k-want c =
    let r = c.loop-t.invariant in
    full c.args.degree c.args.tables.cdt.words.now c.args.words.now c.args.list.now
    (ap (set c.args.list.now 0) c.note.ensures)
    (turn_end r c.loop-t-test.false (ap (set c.loop-t.list c.loop-t.at) c.note-2.ensures))
    (r.same_y ∙ c.requires.3) c.if-k-want.false
