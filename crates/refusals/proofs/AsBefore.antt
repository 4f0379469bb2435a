-- Request S-5 leaves the refusals of all challenges with a position, and request S-6 those of all tables. Assumes nothing.
use mathlib.Core.Path.{◌≡◌, refl}
use mathlib.Core.Bool.{Bool, true, false, ◌&&◌}
use mathlib.Core.List.{List, [], ◌∷◌}
use mathlib.Core.Logic.{◌≢◌}
use Prim.Native.Nat.{ℕ}
use native.Mathlib.Omega.{arith}
use lib.Dec.{eqb}
use lib.IntN.{ℤ}
use lib.ListN.{length}
use borrow.Author.Tests.{lt-ltb, eqb-true}
use Rattle.checks.specs.Checks.{is_degree, Line, line, first_refusal}
use Rattle.deviations.specs.Deviations.{is_deviation}
use Rattle.base_sample.specs.BaseSample.{is_cdt}
use Rattle.base_sample.specs.HighWordsFirst.{is_cdt_before, reordered}
use Rattle.base_sample.proofs.Reordering.{length_reordered, reordered_alike}
use Rattle.challenge.specs.Challenge.{is_challenge}
use Rattle.refusals.specs.Refusals.{draw_refusal, draw_refusal_before, respond_refusal, respond_refusal_before}

-- ** Responds

pub refused_as_before : (n deviation drawn : ℕ) (challenge table : List ℕ) (words : ℕ) (key y : List ℤ) (z list : ℕ) → challenge ≢ []
    → respond_refusal n deviation drawn challenge table words key y z list
    ≡ respond_refusal_before n deviation drawn challenge table words key y z list
unfolding respond_refusal respond_refusal_before is_challenge
refused_as_before n deviation drawn [] table words key y z list some = absurd (some refl)
refused_as_before n deviation drawn (c ∷ challenge) table words key y z list some = rw (lt-ltb 0 (length (c ∷ challenge)) (omega arith))

-- ** Draws

-- line 3 counts where line 2 lets twenty words through
behind_lengths : (degree deviation twenty others test test' : Bool) (lines : List Line) → (twenty ≡ true → test ≡ test')
    → first_refusal (line 1 degree ∷ line 16 deviation ∷ line 2 (twenty && others) ∷ line 3 test ∷ lines)
    ≡ first_refusal (line 1 degree ∷ line 16 deviation ∷ line 2 (twenty && others) ∷ line 3 test' ∷ lines)
unfolding first_refusal
behind_lengths degree deviation true others test test' lines same = rw (same refl)
behind_lengths degree deviation false others test test' lines same = refl

-- the reordering of a table is refused as the table was
pub reordered_as_before : (n deviation limit : ℕ) (table polynomial_table : List ℕ) (words y list : ℕ)
    → draw_refusal n deviation limit (reordered table) polynomial_table words y list
    ≡ draw_refusal_before n deviation limit table polynomial_table words y list
unfolding draw_refusal draw_refusal_before
reordered_as_before n deviation limit table polynomial_table words y list =
    rw (length_reordered table)
    (behind_lengths (is_degree n) (is_deviation deviation) (eqb (length table) 20) _ (is_cdt (reordered table)) (is_cdt_before table) _ (λ e. (reordered_alike table (eqb-true (length table) 20 e)).is_cdt_lem))
