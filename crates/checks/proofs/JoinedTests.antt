-- Tests that code joins, and tests that it leaves by. Assumes nothing.
use mathlib.Core.Path.{◌≡◌, refl, sym, ◌∙◌}
use mathlib.Core.Bool.{Bool, true, false, not, ◌&&◌, ◌||◌, and-eq-true_iff}
use mathlib.Core.List.{List, [], ◌∷◌}
use Prim.Native.Nat.{ℕ}
use lib.Dec.{leb, ltb}
use borrow.Author.Tests.{ltb-true, ltb-false, lt-leb, le-leb}

-- ** One test

-- a test that code makes, where it goes on and where it leaves
pub holds : {made test : Bool} → made ≡ test → made ≡ true → test ≡ true
holds e h = sym e ∙ h

pub fails : {made test : Bool} → made ≡ test → made ≡ false → test ≡ false
fails e h = sym e ∙ h

-- what code tests by `<`, as the definitions have it: by `leb`
pub below_not_above : (a b : ℕ) → ltb a b ≡ not (leb b a)
below_not_above a b = by (ltb a b) refl
  where
    by : (t : Bool) → ltb a b ≡ t → t ≡ not (leb b a)
    by true e = rw (lt-leb b a (ltb-true a b e))
    by false e = rw (le-leb b a (ltb-false a b e))

-- ** Two tests

pub both_true : (a b : Bool) → (a && b) ≡ true → (a ≡ true) × (b ≡ true)
both_true a b h = (and-eq-true_iff a b).0 h

-- ** Any number of tests

-- all of them hold, as definitions have it: by `&&`, to the right
unfoldable pub all_hold : (first : Bool) (others : List Bool) → Bool
all_hold first [] = first
all_hold first (t ∷ others) = first && all_hold t others

-- one of them fails, as code has it: by `|`, to the left, where it is known whether one of those before fails
unfoldable pub or_fails : (failed : Bool) (others : List Bool) → Bool
or_fails failed [] = failed
or_fails failed (t ∷ others) = or_fails (failed || not t) others

fails_early : (others : List Bool) → or_fails true others ≡ true
unfolding or_fails
fails_early [] = refl
fails_early (t ∷ others) = fails_early others

pub one_fails : (first : Bool) (others : List Bool) → or_fails (not first) others ≡ not (all_hold first others)
unfolding all_hold or_fails
one_fails first [] = refl
one_fails true (t ∷ others) = one_fails t others
one_fails false (t ∷ others) = fails_early others
