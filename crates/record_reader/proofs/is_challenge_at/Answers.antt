-- `record_reader::is_challenge_at` meets its contract: more than 64 positions are no challenge, and the others stand in an array. Assumes nothing.
use native.Mathlib.Omega.{arith}
use mathlib.Core.Path.{◌≡◌, sym, ap, ◌∙◌}
use mathlib.Core.Bool.{Bool, false, and-false}
use mathlib.Core.List.{List}
use Prim.Native.Nat.{ℕ, ◌+◌, ◌<◌}
use borrow.Author.Tests.{lt-leb}
use lib.Dec.{ltb}
use lib.ListN.{length, replicate}
use lib.Seq.{length-take-le}
use Rattle.bits.specs.Bits.{number, bit_at}
use Rattle.bits.proofs.Walking.{length_items}
use Rattle.challenge.specs.Challenge.{is_challenge, are_positions}
use Rattle.record.specs.Reading.{positions_at, challenge_at}
use Rattle.record_reader.proofs.is_challenge_at.Goals as goal

too_many : (n : ℕ) (challenge : List ℕ) → 64 < length challenge → is_challenge n challenge ≡ false
unfolding is_challenge are_positions
too_many n challenge h = rw (lt-leb (length challenge) 64 h) (and-false (ltb 0 (length challenge)))

length_positions : (s : ℕ → Bool) (at count : ℕ) → length (positions_at s at count) ≡ count
unfolding positions_at
length_positions s at count = length_items (λ (i : ℕ). number s i 16) (λ (i : ℕ). i + 16) at count

-- ** What the code asks for

pub returns-then-count-gt-MOST_POSITIONS : goal.returns-then-count-gt-MOST_POSITIONS
returns-then-count-gt-MOST_POSITIONS c =
    let a = c.args in
    let s = bit_at a.bytes.now in
    sym (too_many a.n (challenge_at s 24) (omega (arith, length_positions s 32 (number s 24 8), c.number_at-count.ensures)))

pub returns : goal.returns
returns c =
    let a = c.args in
    let r = c.number_at-count in
    let long = length-take-le r.result (replicate 64 0) (omega arith) in
    c.is_challenge.ensures
    ∙ ap (is_challenge a.n) (c.get_positions.ensures ∙ ap (positions_at (bit_at a.bytes.now) 32) (long ∙ r.ensures))
