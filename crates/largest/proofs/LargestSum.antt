-- The sum of the k largest is the sum at k different places, and no k different places sum to more. Assumes nothing.
use mathlib.Core.Path.{◌≡◌, refl, sym, ap, ap₂, ◌∙◌, subst}
use mathlib.Core.Bool.{Bool, true, false, cond}
use mathlib.Core.List.{List, [], ◌∷◌}
use Prim.Native.Nat.{ℕ, zero, suc, ◌≤◌, ◌<◌}
use native.Mathlib.Omega.{arith}
use lib.Dec.{eqb}
use lib.ListN.{length, take}
use lib.Seq.{length-take-le}
use lib.IntN.{ℤ, pos, ◌+ℤ◌}
use lib.Signed.{le_z}
use borrow.Author.Tests.{eqb-false, ne_eqb}
use Rattle.signed.proofs.Integers.{Le, le_same, le_is, le_then, le_sum, test_of_le, same_of_tests}
use Rattle.checks.specs.Checks.{among}
use Rattle.largest.specs.Largest.{insert, falling, total, largest_sum, sum_at, are_different, LargestSum, LargestSumAlone}
use Rattle.largest.proofs.Falling.{length_falling, insert_more, insert_with}
use Rattle.largest.proofs.Places.{Places, places_of, places_more, among_here, among_not, without, none_top, top_out, length_without, sum_without, length_places, different_take}

-- ** No k different places sum to more

pub at_most : (f : ℕ → ℤ) (n : ℕ) (places : List ℕ) → are_different n places ≡ true → Le (sum_at f places) (largest_sum f n (length places))
unfolding largest_sum falling total sum_at
at_most f zero [] d = le_same (pos 0)
at_most f zero (p ∷ places) d = absurd (let l : p < 0 = (places_of 0 p places d).low in omega arith)
at_most f (suc n) places d = by (among places n) refl (at_most f n)
  where
    by : (t : Bool) → among places n ≡ t
        → ((others : List ℕ) → are_different n others ≡ true → Le (sum_at f others) (total (take (length others) (falling f n))))
        → Le (sum_at f places) (total (take (length places) (insert (f n) (falling f n))))
    by true e ih =
        let others = without n places in
        let d' = top_out n places d e in
        let l : length others ≤ length (falling f n) = omega (arith, length_places n others d', length_falling f n) in
        le_then
        (le_is (sum_without n f places e))
        (le_then
        (le_sum (le_same (f n)) (ih others d'))
        (subst (λ (k : ℕ). Le (f n +ℤ total (take (length others) (falling f n))) (total (take k (insert (f n) (falling f n)))))
        (sym (length_without n places e)) (insert_with (length others) (f n) (falling f n) l)))
    by false e ih =
        let d' = none_top n places d e in
        le_then (ih places d') (insert_more (length places) (f n) (falling f n)
        (omega (arith, length_places n places d', length_falling f n)))

-- ** Some k different places sum to it

-- the values at some places
unfoldable values_at : (f : ℕ → ℤ) (places : List ℕ) → List ℤ
values_at f [] = []
values_at f (p ∷ places) = f p ∷ values_at f places

-- a place into a list of places whose values fall
unfoldable insert_place : (f : ℕ → ℤ) (x : ℕ) (places : List ℕ) → List ℕ
insert_place f x [] = x ∷ []
insert_place f x (y ∷ places) = cond (le_z (f x) (f y)) y x ∷ insert_place f (cond (le_z (f x) (f y)) x y) places

-- the places of the falling list
unfoldable order : (f : ℕ → ℤ) (n : ℕ) → List ℕ
order f zero = []
order f (suc n) = insert_place f n (order f n)

value_cond : (f : ℕ → ℤ) (t : Bool) (a b : ℕ) → f (cond t a b) ≡ cond t (f a) (f b)
value_cond f true a b = refl
value_cond f false a b = refl

module _ (f : ℕ → ℤ) where
  values_insert : (x : ℕ) (places : List ℕ) → values_at f (insert_place f x places) ≡ insert (f x) (values_at f places)
  unfolding values_at insert_place insert
  values_insert x [] = refl
  values_insert x (y ∷ places) =
      let t = le_z (f x) (f y) in
      ap₂ (λ (v : ℤ) (l : List ℤ). v ∷ l) (value_cond f t y x)
      (values_insert (cond t x y) places ∙ ap (λ (v : ℤ). insert v (values_at f places)) (value_cond f t x y))

  values_order : (n : ℕ) → values_at f (order f n) ≡ falling f n
  unfolding order falling values_at
  values_order zero = refl
  values_order (suc n) = values_insert n (order f n) ∙ ap (insert (f n)) (values_order n)

  length_insert_place : (x : ℕ) (places : List ℕ) → length (insert_place f x places) ≡ suc (length places)
  unfolding insert_place
  length_insert_place x [] = refl
  length_insert_place x (y ∷ places) = ap suc (length_insert_place (cond (le_z (f x) (f y)) x y) places)

  length_order : (n : ℕ) → length (order f n) ≡ n
  unfolding order
  length_order zero = refl
  length_order (suc n) = length_insert_place n (order f n) ∙ ap suc (length_order n)

  among_insert_place : (q x : ℕ) (places : List ℕ) → eqb q x ≡ false → among places q ≡ false → among (insert_place f x places) q ≡ false
  unfolding insert_place
  among_insert_place q x [] e h = among_not x q [] e h
  among_insert_place q x (y ∷ places) e h = by (le_z (f x) (f y)) (among_here y q places h) (λ z. among_insert_place q z places)
    where
      by : (t : Bool) → (eqb q y ≡ false) × (among places q ≡ false)
          → ((z : ℕ) → eqb q z ≡ false → among places q ≡ false → among (insert_place f z places) q ≡ false)
          → among (cond t y x ∷ insert_place f (cond t x y) places) q ≡ false
      by true g ih = among_not y q (insert_place f x places) g.0 (ih x e g.1)
      by false g ih = among_not x q (insert_place f y places) e (ih y g.0 g.1)

  eqb_turn : (a b : ℕ) → eqb a b ≡ false → eqb b a ≡ false
  eqb_turn a b e = ne_eqb b a (λ g. eqb-false a b e (sym g))

  different_insert_place : (n x : ℕ) (places : List ℕ) → x < n → among places x ≡ false → are_different n places ≡ true
      → are_different n (insert_place f x places) ≡ true
  unfolding insert_place
  different_insert_place n x [] h e d = places_more n x [] h e d
  different_insert_place n x (y ∷ places) h e d = by (le_z (f x) (f y)) (places_of n y places d) (among_here y x places e)
      (λ z. different_insert_place n z places)
    where
      by : (t : Bool) → Places n y places → (eqb x y ≡ false) × (among places x ≡ false)
          → ((z : ℕ) → z < n → among places z ≡ false → are_different n places ≡ true → are_different n (insert_place f z places) ≡ true)
          → are_different n (cond t y x ∷ insert_place f (cond t x y) places) ≡ true
      by true a b ih = places_more n y (insert_place f x places) a.low (among_insert_place y x places (eqb_turn x y b.0) a.new)
          (ih x h b.1 a.rest)
      by false a b ih = places_more n x (insert_place f y places) h (among_insert_place x y places b.0 b.1)
          (ih y a.low a.new a.rest)

  -- places below n are below n + 1, and n is not among them
  more_room : (n : ℕ) (places : List ℕ) → are_different n places ≡ true → (are_different (suc n) places ≡ true) × (among places n ≡ false)
  unfolding are_different among
  more_room n [] d = (refl, refl)
  more_room n (p ∷ places) d =
      let a = places_of n p places d in
      let b = more_room n places a.rest in
      let l : p < n = a.low in (
        places_more (suc n) p places (omega arith) a.new b.0,
        among_not p n places
            (ne_eqb n p (λ e. let g : n ≡ p = e in omega arith)) b.1,
      )

  different_order : (n : ℕ) → are_different n (order f n) ≡ true
  unfolding order are_different
  different_order zero = refl
  different_order (suc n) = let b = more_room n (order f n) (different_order n) in different_insert_place (suc n) n (order f n)
      (omega arith) b.1 b.0

sum_taken : (f : ℕ → ℤ) (k : ℕ) (places : List ℕ) → sum_at f (take k places) ≡ total (take k (values_at f places))
unfolding sum_at total values_at
sum_taken f zero [] = refl
sum_taken f zero (p ∷ places) = refl
sum_taken f (suc k) [] = refl
sum_taken f (suc k) (p ∷ places) = ap (λ (z : ℤ). f p +ℤ z) (sum_taken f k places)

-- ** The claim

pub largest_sum_lem : LargestSum
unfolding largest_sum
largest_sum_lem f n k h = record {
  places = take k (order f n);
  many = length-take-le k (order f n) (omega (arith, length_order f n));
  different = different_take n k (order f n) (different_order f n);
  reached = sum_taken f k (order f n) ∙ ap (λ (l : List ℤ). total (take k l)) (values_order f n);
  most = λ others e d. test_of_le (sum_at f others) (total (take k (falling f n)))
      (subst (λ (m : ℕ). Le (sum_at f others) (total (take m (falling f n)))) e (at_most f n others d));
}

pub largest_sum_alone : LargestSumAlone
largest_sum_alone f n k a b p q =
    same_of_tests a b
    (subst (λ (z : ℤ). le_z z b ≡ true) p.reached (q.most p.places p.many p.different))
    (subst (λ (z : ℤ). le_z z a ≡ true) q.reached (p.most q.places q.many q.different))
