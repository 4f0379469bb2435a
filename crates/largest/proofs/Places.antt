-- Different places: which they are without one of them, and that there are not more than places at all. Assumes nothing.
use mathlib.Core.Path.{◌≡◌, refl, sym, ap, ◌∙◌, subst}
use mathlib.Core.Bool.{Bool, true, false, not, ◌&&◌, ◌||◌, cond, false≢true}
use mathlib.Core.List.{List, [], ◌∷◌}
use Prim.Native.Nat.{ℕ, zero, suc, ◌≤◌, ◌<◌}
use native.Mathlib.Omega.{arith}
use lib.Dec.{eqb, ltb}
use lib.ListN.{length, take}
use lib.IntN.{ℤ, ◌+ℤ◌, +ℤ_assoc, +ℤ_comm}
use borrow.Author.Tests.{ltb-true, lt-ltb, eqb-true, eqb-false}
use Rattle.checks.specs.Checks.{among}
use Rattle.checks.proofs.JoinedTests.{both_true}
use Rattle.largest.specs.Largest.{sum_at, are_different}

-- ** Different places

not-true : (b : Bool) → not b ≡ true → b ≡ false
not-true true e = sym e
not-true false e = refl

pub record Places (n p : ℕ) (places : List ℕ) : Type 0 where
  pub low : p < n
  pub new : among places p ≡ false
  pub rest : are_different n places ≡ true

pub places_of : (n p : ℕ) (places : List ℕ) → are_different n (p ∷ places) ≡ true → Places n p places
unfolding are_different
places_of n p places h =
    let a = both_true (ltb p n) (not (among places p) && are_different n places) h in
    let b = both_true (not (among places p)) (are_different n places) a.1 in
    record { low = ltb-true p n a.0; new = not-true (among places p) b.0; rest = b.1 }

pub places_more : (n p : ℕ) (places : List ℕ) → p < n → among places p ≡ false → are_different n places ≡ true
    → are_different n (p ∷ places) ≡ true
unfolding are_different
places_more n p places h e d = rw (lt-ltb p n h, e, d)

pub among_here : (p : ℕ) (q : ℕ) (places : List ℕ) → among (p ∷ places) q ≡ false → (eqb q p ≡ false) × (among places q ≡ false)
unfolding among
among_here p q places h = by (eqb q p) refl h
  where
    by : (t : Bool) → eqb q p ≡ t → (t || among places q) ≡ false → (t ≡ false) × (among places q ≡ false)
    by true e h = absurd (false≢true (sym h))
    by false e h = (refl, h)

pub among_not : (p q : ℕ) (places : List ℕ) → eqb q p ≡ false → among places q ≡ false → among (p ∷ places) q ≡ false
unfolding among
among_not p q places e h = rw (e, h)

-- ** The places without m

unfoldable pub without : (m : ℕ) (places : List ℕ) → List ℕ
without m [] = []
without m (p ∷ places) = cond (eqb m p) places (p ∷ without m places)

module _ (m : ℕ) where
  among_without : (q : ℕ) (places : List ℕ) → among places q ≡ false → among (without m places) q ≡ false
  unfolding without
  among_without q [] h = h
  among_without q (p ∷ places) h = by (eqb m p) (among_here p q places h) (among_without q places)
    where
      by : (t : Bool) → (eqb q p ≡ false) × (among places q ≡ false) → (among places q ≡ false → among (without m places) q ≡ false)
          → among (cond t places (p ∷ without m places)) q ≡ false
      by true g ih = g.1
      by false g ih = among_not p q (without m places) g.0 (ih g.1)

  -- where m is not there, all are below it
  pub none_top : (places : List ℕ) → are_different (suc m) places ≡ true → among places m ≡ false → are_different m places ≡ true
  unfolding are_different
  none_top [] d h = refl
  none_top (p ∷ places) d h =
      let a = places_of (suc m) p places d in
      let b = among_here p m places h in
      let l : p < suc m = a.low in
      places_more m p places (omega (arith, eqb-false m p b.0)) a.new (none_top places a.rest b.1)

  pub top_out : (places : List ℕ) → are_different (suc m) places ≡ true → among places m ≡ true → are_different m (without m places) ≡ true
  unfolding without among
  top_out [] d h = absurd (false≢true h)
  top_out (p ∷ places) d h = by (eqb m p) refl h (top_out places)
    where
      a : Places (suc m) p places
      a = places_of (suc m) p places d

      by : (t : Bool) → eqb m p ≡ t → (t || among places m) ≡ true
          → (are_different (suc m) places ≡ true → among places m ≡ true → are_different m (without m places) ≡ true)
          → are_different m (cond t places (p ∷ without m places)) ≡ true
      by true e g ih = none_top places a.rest (subst (λ (q : ℕ). among places q ≡ false) (sym (eqb-true m p e)) a.new)
      by false e g ih =
          let l : p < suc m = a.low in
          places_more m p (without m places) (omega (arith, eqb-false m p e)) (among_without p places a.new) (ih a.rest g)

  pub length_without : (places : List ℕ) → among places m ≡ true → length places ≡ suc (length (without m places))
  unfolding without among
  length_without [] h = absurd (false≢true h)
  length_without (p ∷ places) h = by (eqb m p) h (length_without places)
    where
      by : (t : Bool) → (t || among places m) ≡ true → (among places m ≡ true → length places ≡ suc (length (without m places)))
          → suc (length places) ≡ suc (length (cond t places (p ∷ without m places)))
      by true g ih = refl
      by false g ih = ap suc (ih g)

  pub sum_without : (f : ℕ → ℤ) (places : List ℕ) → among places m ≡ true → sum_at f places ≡ f m +ℤ sum_at f (without m places)
  unfolding without among sum_at
  sum_without f [] h = absurd (false≢true h)
  sum_without f (p ∷ places) h = by (eqb m p) refl h (sum_without f places)
    where
      by : (t : Bool) → eqb m p ≡ t → (t || among places m) ≡ true
          → (among places m ≡ true → sum_at f places ≡ f m +ℤ sum_at f (without m places))
          → f p +ℤ sum_at f places ≡ f m +ℤ sum_at f (cond t places (p ∷ without m places))
      by true e g ih = ap (λ (q : ℕ). f q +ℤ sum_at f places) (sym (eqb-true m p e))
      by false e g ih =
          ap (λ (z : ℤ). f p +ℤ z) (ih g)
          ∙ sym (+ℤ_assoc (f p) (f m) (sum_at f (without m places)))
          ∙ ap (λ (z : ℤ). z +ℤ sum_at f (without m places)) (+ℤ_comm (f p) (f m))
          ∙ +ℤ_assoc (f m) (f p) (sum_at f (without m places))

-- there are at most n of them
pub length_places : (n : ℕ) (places : List ℕ) → are_different n places ≡ true → length places ≤ n
length_places zero [] d = omega arith
length_places zero (p ∷ places) d = absurd (let l : p < 0 = (places_of 0 p places d).low in omega arith)
length_places (suc n) places d = by (among places n) refl (length_places n)
  where
    by : (t : Bool) → among places n ≡ t → ((others : List ℕ) → are_different n others ≡ true → length others ≤ n) → length places ≤ suc n
    by true e ih = omega (arith, length_without n places e, ih (without n places) (top_out n places d e))
    by false e ih = omega (arith, ih places (none_top n places d e))

-- ** The first of some places

among_take : (k q : ℕ) (places : List ℕ) → among places q ≡ false → among (take k places) q ≡ false
unfolding among
among_take zero q [] h = refl
among_take zero q (p ∷ places) h = refl
among_take (suc k) q [] h = refl
among_take (suc k) q (p ∷ places) h = let b = among_here p q places h in among_not p q (take k places) b.0 (among_take k q places b.1)

pub different_take : (n k : ℕ) (places : List ℕ) → are_different n places ≡ true → are_different n (take k places) ≡ true
unfolding are_different
different_take n zero [] d = refl
different_take n zero (p ∷ places) d = refl
different_take n (suc k) [] d = refl
different_take n (suc k) (p ∷ places) d = let a = places_of n p places d in places_more n p (take k places) a.low
    (among_take k p places a.new) (different_take n k places a.rest)
