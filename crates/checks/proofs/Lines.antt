-- Tables of refusals: a line that code reaches, and the tests of a call that is served. Assumes nothing.
use mathlib.Core.Path.{◌≡◌, refl, sym, ◌∙◌}
use mathlib.Core.Bool.{Bool, true, false, ◌&&◌, cond}
use mathlib.Core.List.{List, [], ◌∷◌}
use Prim.Native.Nat.{ℕ}
use native.Mathlib.Omega.{arith}
use lib.Dec.{ltb, eqb}
use borrow.Author.Tests.{ltb-true}
use Rattle.checks.specs.Checks.{Line, line, first_refusal}
use Rattle.checks.proofs.JoinedTests.{both_true}

-- ** A line that code reaches

-- the lines from a refusal on
unfoldable pub from : (refusal : ℕ) (lines : List Line) → List Line
from k [] = []
from k (line refusal test ∷ lines) = cond (eqb k refusal) (line refusal test ∷ lines) (from k lines)

-- a call whose first refusal is told by these lines
pub record Reached (first : ℕ) (lines : List Line) : Type 0 where
  pub told : first ≡ first_refusal lines

-- the test of the next line fails, and the call leaves with its refusal
pub leaves : {first refusal : ℕ} {test : Bool} {lines : List Line} → Reached first (line refusal test ∷ lines) → test ≡ false
    → refusal ≡ first
unfolding first_refusal
leaves r h = sym (r.told ∙ rw h)

-- it holds, and the lines behind it tell
pub goes_on : {first refusal : ℕ} {test : Bool} {lines : List Line} → Reached first (line refusal test ∷ lines) → test ≡ true
    → Reached first lines
unfolding first_refusal
goes_on r h = record { told = r.told ∙ rw h }

-- ** A call that is served

-- whether no line has the refusal 0, which is none
unfoldable pub numbered : (lines : List Line) → Bool
numbered [] = true
numbered (line refusal test ∷ lines) = ltb 0 refusal && numbered lines

-- the test of a refusal; true where no line has it
unfoldable pub test_of : (refusal : ℕ) (lines : List Line) → Bool
test_of k [] = true
test_of k (line refusal test ∷ lines) = cond (eqb k refusal) test (test_of k lines)

pub passes : (k : ℕ) (lines : List Line) → numbered lines ≡ true → first_refusal lines ≡ 0 → test_of k lines ≡ true
unfolding numbered first_refusal test_of
passes k [] h e = refl
passes k (line refusal true ∷ lines) h e = by (passes k lines (both_true (ltb 0 refusal) (numbered lines) h).1 e) (eqb k refusal)
  where
    by : test_of k lines ≡ true → (t : Bool) → cond t true (test_of k lines) ≡ true
    by later true = refl
    by later false = later
passes k (line refusal false ∷ lines) h e = absurd (let positive = ltb-true 0 refusal (both_true (ltb 0 refusal) (numbered lines) h).0 in omega arith)
