-- The deviations: a `match` on their list, R at each of them, and e(N). Assumes nothing.
use mathlib.Core.Path.{◌≡◌, refl, sym}
use mathlib.Core.Bool.{true, false}
use types.Run.{OneOf}
use Prim.Native.Nat.{ℕ, ◌*◌, ◌^◌, ◌<◌}
use lib.Dec.{ltb}
use borrow.Author.Tests.{ltb-true}
use Rattle.checks.proofs.Among.{hit_among, miss_among, every, every_among, one_among}
use Rattle.exponential.specs.Exponential.{reciprocal, divisor_at, attempt_limit, exp}
use Rattle.exponential.proofs.ByRule.{in_turn_lem}
use Rattle.deviations.specs.Deviations.{deviations, is_deviation, exp_at, InTurnAtDeviations, AloneAt215}

pub is_deviation_lem : (deviation : ℕ) → OneOf deviations deviation → true ≡ is_deviation deviation
unfolding is_deviation
is_deviation_lem deviation h = sym (hit_among deviations deviation h)

pub not_deviation : (deviation : ℕ) → (OneOf deviations deviation → ⊥) → false ≡ is_deviation deviation
unfolding is_deviation
not_deviation deviation h = sym (miss_among deviations deviation h)

pub deviation_of : (deviation : ℕ) → is_deviation deviation ≡ true → OneOf deviations deviation
unfolding is_deviation
deviation_of deviation h = one_among 107 _ deviation h

-- the products of an attempt fit
pub scales_at : (deviation : ℕ) → is_deviation deviation ≡ true → attempt_limit * reciprocal (divisor_at deviation) < 2 ^ 84
unfolding is_deviation every reciprocal
scales_at deviation h = ltb-true _ (2 ^ 84) (every_among (λ (d : ℕ). ltb (attempt_limit * reciprocal (divisor_at d)) (2 ^ 84)) deviations deviation refl h)

pub in_turn_at_deviations : InTurnAtDeviations
unfolding exp_at
in_turn_at_deviations deviation n = in_turn_lem (divisor_at deviation) n

pub alone_at_215 : AloneAt215
unfolding exp_at exp
alone_at_215 n = refl
