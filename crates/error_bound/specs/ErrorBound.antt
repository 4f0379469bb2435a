-- The bound on the error of the exponential: the statements. proofs/ErrorBound.antt has a term of each. Assumes nothing.
use Rattle.std.specs.Prelude.{ℕ, ◌*◌, ◌^◌, ◌≤◌, ◌<◌}
use Rattle.exponential.specs.Exponential.{polynomial, exp, exp_with, divisor, divisor_at, limit, attempt_limit}
use Rattle.error_bound.specs.Exact.{Within}

-- for every N from 0 to 5,534,960, e(N) differs from the exact fraction by at most 960 units
abbrev pub ErrorBound : Type 0
ErrorBound = (n : ℕ) → n ≤ limit → Within 960 (exp n) divisor n

-- the same at every deviation from 107 to 271, for every N from 0 to 1,370,625, the largest that an attempt has
abbrev pub ErrorBoundAtDeviations : Type 0
ErrorBoundAtDeviations =
    (deviation n : ℕ) → 107 ≤ deviation → deviation ≤ 271 → n ≤ attempt_limit →
    Within 960 (exp_with polynomial (divisor_at deviation) n) (divisor_at deviation) n

-- N / q is at most 15 / 16, and N at most 4 / 3 * 2 ^ 22
pub record InRange (q n : ℕ) : Type 0 where
  pub positive : 0 < q
  pub ratio : 16 * n ≤ 15 * q
  pub size : 3 * n ≤ 4 * 2 ^ 22

-- what both are instances of: a bound at every divisor
abbrev pub ErrorBoundInRange : Type 0
ErrorBoundInRange = (q n : ℕ) → InRange q n → Within 959 (exp_with polynomial q n) q n

-- e(N) is at most 1
abbrev pub AtMostOne : Type 0
AtMostOne = (q n : ℕ) → InRange q n → exp_with polynomial q n ≤ 2 ^ 62
