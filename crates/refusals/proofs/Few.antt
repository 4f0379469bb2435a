-- A degree and a count of positions are small, so that products with them fit. Assumes nothing.
use mathlib.Core.Path.{◌≡◌}
use mathlib.Core.Bool.{true}
use mathlib.Core.List.{List}
use Prim.Native.Nat.{ℕ, ◌*◌, ◌≤◌}
use native.Mathlib.Nat.{mul-le-mul}
use native.Mathlib.Omega.{arith}
use lib.ListN.{length}
use Rattle.checks.specs.Checks.{is_degree}
use Rattle.checks.proofs.Degrees.{degree_range}
use Rattle.challenge.specs.Challenge.{are_positions}
use Rattle.challenge.proofs.Positions.{positions_of}

pub entries_few : (n : ℕ) (challenge : List ℕ) → is_degree n ≡ true → are_positions n challenge ≡ true
    → 2 * n * length challenge ≤ 2048 * 64
entries_few n challenge d p =
    mul-le-mul {n₁ = 2 * n} {m₁ = length challenge} {n₂ = 2048} {m₂ = 64}
    (omega (arith, degree_range n d))
    (positions_of n challenge p).few

-- for an answer that multiplies them
pub ruleset few = (degree_range, entries_few)
