use Rattle.std.proofs.Common.{◌≡◌, ◌<◌, ℕ, get_or, length}
use Rattle.bits.proofs.padded.Given as goal

-- the bytes so far are those at the same places
abbrev pub invariant-loop-i : goal.invariant-loop-i
invariant-loop-i l = (length l.byte-items ≡ 8) × ((k : ℕ) → k < l.i → get_or l.byte-items k 0 ≡ get_or l.bytes k 0)
