-- `record_writer::put_challenge` meets its contract: the count and the positions, or nothing. Assumes nothing.
use native.Mathlib.Omega.{arith}
use mathlib.Core.Path.{◌≡◌, refl, ap, ◌∙◌}
use Prim.Native.Nat.{◌+◌, ◌*◌, ◌≤◌}
use lib.ListN.{length}
use Rattle.bits.specs.Bits.{put_bits}
use Rattle.bits.specs.Items.{form_if, items_of}
use Rattle.bits.proofs.Putting.{length_put}
use Rattle.record.specs.Record.{challenge_bits}
use Rattle.record.proofs.FieldSets.{length_challenge}
use Rattle.record_writer.proofs.WriteLaws.{challenge_put}
use Rattle.record_writer.proofs.put_challenge.Goals as goal
use Rattle.record_writer.proofs.put_challenge.Goals.{After-put_byte, In-Some}

-- ** What is known behind the test, and behind the count

few : (c : In-Some) → length c.in-Some.challenge.now ≤ 64
unfolding items_of
few c = rw c.in-Some.is at c.requires.few

room : (c : In-Some) → 24 + length (challenge_bits c.in-Some.challenge.now) ≤ 8 * length c.args.page.now
unfolding form_if
room c = rw c.in-Some.is at c.requires.in_bounds

-- the page keeps its length
long : (c : After-put_byte) → length c.put_byte.new.page ≡ length c.args.page.now
long c = ap length c.put_byte.ensures ∙ length_put _ _ _

-- ** What the code asks for

pub returns-in_default : goal.returns-in_default
unfolding put_bits form_if
returns-in_default c = rw c.in_default.is (refl, refl)

pub overflow_cast-challenge : goal.overflow_cast-challenge
overflow_cast-challenge c = omega (arith, few (goal.at.overflow_cast-challenge c).In-Some)

pub put_byte-requires : goal.put_byte-requires
put_byte-requires c =
    omega (arith, room (goal.at.put_byte-requires c).In-Some, length_challenge c.in-Some.challenge.now)

pub put_positions-requires : goal.put_positions-requires
put_positions-requires c =
    let here = (goal.at.put_positions-requires c).In-Some in
    (few here, omega arith, omega (arith, room here, length_challenge c.in-Some.challenge.now, long (goal.at.put_positions-requires c).After-put_byte))

pub overflow_mul-result : goal.overflow_mul-result
overflow_mul-result c = omega (arith, few (goal.at.overflow_mul-result c).In-Some)

pub overflow_add-result : goal.overflow_add-result
overflow_add-result c = omega (arith, few (goal.at.overflow_add-result c).In-Some)

pub returns : goal.returns
unfolding form_if
returns c =
    rw c.in-Some.is
    (omega (arith, length_challenge c.in-Some.challenge.now), challenge_put c.args.page.now c.in-Some.challenge.now c.put_byte.ensures c.put_positions.ensures)
