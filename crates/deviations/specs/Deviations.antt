-- Request S-8: the deviations that a session may have, and e(N) at a deviation. Assumes nothing.
use Rattle.std.specs.Prelude.{◌≡◌, Bool, List, [], ◌∷◌, ℕ, ◌*◌, ◌^◌}
use Rattle.checks.specs.Checks.{among}
use Rattle.exponential.specs.Exponential.{polynomial, exp_with, divisor_at, exp, InTurn}

-- BLISS-I's is 215
abbrev pub deviations : List ℕ
deviations = 107 ∷ 215 ∷ 250 ∷ 271 ∷ []

unfoldable pub is_deviation : ℕ → Bool
is_deviation deviation = among deviations deviation

-- e(N) at a deviation
unfoldable pub exp_at : (deviation n : ℕ) → ℕ
exp_at deviation n = exp_with polynomial (divisor_at deviation) n

-- ** What follows

-- D is twice the square of the deviation, and 64 D the divisor of the numbers that lead to e(N)
abbrev pub InTurnAtDeviations : Type 0
InTurnAtDeviations = (deviation n : ℕ) → let d = 2 * deviation ^ 2 in InTurn (64 * d) n (exp_at deviation n)

-- the exponential by N alone is that of 215
abbrev pub AloneAt215 : Type 0
AloneAt215 = (n : ℕ) → exp_at 215 n ≡ exp n
