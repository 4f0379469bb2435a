-- Request S-8 in numbers: the divisors, R, and e(N) at the four deviations. Assumes nothing.
use Rattle.std.specs.Prelude.{◌≡◌, true, false, List, [], ◌∷◌, ℕ, ◌*◌, ◌^◌}
use Rattle.known_points.specs.EvenThresholds.{even_thresholds}
use Rattle.exponential.specs.Exponential.{reciprocal, divisor_at}
use Rattle.deviations.specs.Deviations.{exp_at}
use Rattle.attempt.specs.Attempt.{bit_at}

-- e(0), e(1), e(513) and e(1,370,625)
abbrev pub values_at : (deviation : ℕ) → List ℕ
values_at deviation = exp_at deviation 0 ∷ exp_at deviation 1 ∷ exp_at deviation 513 ∷ exp_at deviation 1370625 ∷ []

-- an attempt with x = 1 and b = 1, so that N = 513, and this u
abbrev pub attempt_of513 : (u : ℕ) → List ℕ
attempt_of513 u = 2 ^ 40 ∷ 0 ∷ 1 ∷ u ∷ []

pub record DeviationNumbers : Type 0 where
  -- ** 64 D, where D is twice the square of the deviation
  pub divisor_107 : divisor_at 107 ≡ 64 * 22898
  pub divisor_215 : divisor_at 215 ≡ 64 * 92450
  pub divisor_250 : divisor_at 250 ≡ 64 * 125000
  pub divisor_271 : divisor_at 271 ≡ 64 * 146882
  --
  -- ** R: it is above 2 ^ 63 at 107
  pub reciprocal_107 : reciprocal (divisor_at 107) ≡ 13199032880760646941
  pub reciprocal_215 : reciprocal (divisor_at 215) ≡ 3269134179596076729
  pub reciprocal_250 : reciprocal (divisor_at 250) ≡ 2417851639229258349
  pub reciprocal_271 : reciprocal (divisor_at 271) ≡ 2057648009311265462
  --
  -- ** e(N)
  pub exp_107 : values_at 107 ≡ 2 ^ 62 ∷ 4611484621566558939 ∷ 4509515940298752012 ∷ 0 ∷ []
  pub exp_215 : values_at 215 ≡ 2 ^ 62 ∷ 4611636135668307368 ∷ 4586166892218597802 ∷ 1679544596975 ∷ []
  pub exp_250 : values_at 250 ≡ 2 ^ 62 ∷ 4611649125086814091 ∷ 4592798442822891684 ∷ 79766536849860 ∷ []
  pub exp_271 : values_at 271 ≡ 2 ^ 62 ∷ 4611654621317327791 ∷ 4595607340672970077 ∷ 408558013066679 ∷ []
  -- the last N at 107 whose e(N) is not 0, and the first whose is
  pub exp_last : exp_at 107 999916 ≡ 1
  pub exp_none : exp_at 107 999917 ≡ 0
  --
  -- ** An attempt: u = e(N) - 1 is accepted and e(N) is not
  pub below_107 : bit_at (exp_at 107) even_thresholds (attempt_of513 4509515940298752011) 0 ≡ true
  pub at_107 : bit_at (exp_at 107) even_thresholds (attempt_of513 4509515940298752012) 0 ≡ false
  pub below_271 : bit_at (exp_at 271) even_thresholds (attempt_of513 4595607340672970076) 0 ≡ true
  pub at_271 : bit_at (exp_at 271) even_thresholds (attempt_of513 4595607340672970077) 0 ≡ false
