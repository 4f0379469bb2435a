use lib.ListN.{length}
use mathlib.Core.Path.{◌≡◌}
use Prim.Native.Nat.{ℕ, ◌+◌, ◌*◌}
use Rattle.bits.specs.Bits.{number, bit_at}
use Rattle.bits.proofs.Walking.{Written}
use Rattle.record_reader.proofs.get_positions.Given as goal

abbrev pub invariant-loop-position : goal.invariant-loop-position
invariant-loop-position l =
    (l.place ≡ l.at + 16 * l.position-index)
    × Written (λ (p : ℕ). p + 16) l.at (length l.initial.challenge) (λ (p : ℕ). number (bit_at l.bytes) p 16) l.initial.challenge l.challenge l.place l.position-index
