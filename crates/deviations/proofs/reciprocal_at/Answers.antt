-- `deviations::reciprocal_at` meets its contract: each constant is R of its deviation, and the deviation that is left over is 215. Assumes
-- nothing.
use mathlib.Core.Path.{◌≡◌, refl}
use mathlib.Core.Bool.{true}
use mathlib.Core.Logic.{◌≢◌, ⊎_elim}
use Prim.Native.Nat.{ℕ}
use Rattle.exponential.specs.Exponential.{reciprocal}
use Rattle.deviations.specs.Deviations.{is_deviation}
use Rattle.deviations.proofs.Deviations.{deviation_of}
use Rattle.deviations.proofs.reciprocal_at.Goals as goal

pub returns-in-107 : goal.returns-in-107
unfolding reciprocal
returns-in-107 c = rw c.in-107.is refl

pub returns-in-250 : goal.returns-in-250
unfolding reciprocal
returns-in-250 c = rw c.in-250.is refl

pub returns-in-271 : goal.returns-in-271
unfolding reciprocal
returns-in-271 c = rw c.in-271.is refl

left_over : (deviation : ℕ) → is_deviation deviation ≡ true → deviation ≢ 107 → deviation ≢ 250 → deviation ≢ 271 → deviation ≡ 215
left_over deviation h not_107 not_250 not_271 =
    ⊎_elim (λ e. absurd (not_107 e)) (⊎_elim (λ e. e) (⊎_elim (λ e. absurd (not_250 e)) (λ e. absurd (not_271 e))))
    (deviation_of deviation h)

pub returns-in_default : goal.returns-in_default
unfolding reciprocal
returns-in_default c =
    let others = c.in_default.in_default-own.rest in
    rw (left_over c.args.deviation c.requires others.0.0.1 others.0.1 others.1) refl
