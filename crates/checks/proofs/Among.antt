-- Numbers of a list: a `match` on them, and what holds for each of them. Assumes nothing.
use mathlib.Core.Path.{◌≡◌, refl, ap, ◌∙◌}
use mathlib.Core.Bool.{Bool, true, false, ◌&&◌, ◌||◌, or-true, false≢true}
use mathlib.Core.List.{List, [], ◌∷◌}
use mathlib.Core.Logic.{inl, inr, ⊎_elim}
use types.Run.{OneOf}
use Prim.Native.Nat.{ℕ}
use lib.Dec.{eqb}
use borrow.Author.Tests.{eq-eqb, ne_eqb, eqb-true}
use Rattle.checks.specs.Checks.{among}
use Rattle.checks.proofs.JoinedTests.{both_true}

-- ** A `match` on numbers, as a test

pub hit_among : (ks : List ℕ) (n : ℕ) → OneOf ks n → among ks n ≡ true
unfolding among
hit_among [] n h = absurd h
hit_among (k ∷ []) n h = rw (eq-eqb n k h)
hit_among (k ∷ (j ∷ ks)) n h = ⊎_elim (λ e. rw (eq-eqb n k e)) (λ r. ap (λ (b : Bool). eqb n k || b) (hit_among (j ∷ ks) n r) ∙ or-true (eqb n k)) h

pub miss_among : (ks : List ℕ) (n : ℕ) → (OneOf ks n → ⊥) → among ks n ≡ false
unfolding among
miss_among [] n h = refl
miss_among (k ∷ []) n h = rw (ne_eqb n k h)
miss_among (k ∷ (j ∷ ks)) n h = rw (ne_eqb n k (λ e. h (inl e))) (miss_among (j ∷ ks) n (λ r. h (inr r)))

-- ** A number that is among them

-- whether a test holds for every number of a list
unfoldable pub every : (ℕ → Bool) → List ℕ → Bool
every test [] = true
every test (k ∷ ks) = test k && every test ks

pub every_among : (test : ℕ → Bool) (ks : List ℕ) (n : ℕ) → every test ks ≡ true → among ks n ≡ true → test n ≡ true
unfolding among every
every_among test [] n h e = absurd (false≢true e)
every_among test (k ∷ ks) n h e = by (λ g. every_among test ks n (both_true (test k) (every test ks) h).1 g) (eqb n k) refl e
  where
    by : (among ks n ≡ true → test n ≡ true) → (t : Bool) → eqb n k ≡ t → (t || among ks n) ≡ true → test n ≡ true
    by rest true f g = ap test (eqb-true n k f) ∙ (both_true (test k) (every test ks) h).0
    by rest false f g = rest g

pub one_among : (k : ℕ) (ks : List ℕ) (n : ℕ) → among (k ∷ ks) n ≡ true → OneOf (k ∷ ks) n
unfolding among
one_among k [] n h = by (eqb n k) refl h
  where
    by : (t : Bool) → eqb n k ≡ t → (t || false) ≡ true → n ≡ k
    by true e g = eqb-true n k e
    by false e g = absurd (false≢true g)
one_among k (j ∷ ks) n h = by (one_among j ks n) (eqb n k) refl h
  where
    by : (among (j ∷ ks) n ≡ true → OneOf (j ∷ ks) n) → (t : Bool) → eqb n k ≡ t → (t || among (j ∷ ks) n) ≡ true
        → OneOf (k ∷ (j ∷ ks)) n
    by later true e g = inl (eqb-true n k e)
    by later false e g = inr (later g)
