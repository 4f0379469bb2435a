-- The falling list, and sums of its first values. Assumes nothing.
use mathlib.Core.Path.{◌≡◌, refl, sym, ap, ap₂, ◌∙◌}
use mathlib.Core.Bool.{Bool, true, false, cond}
use mathlib.Core.List.{List, [], ◌∷◌}
use Prim.Native.Nat.{ℕ, zero, suc, ◌*◌, ◌≤◌, ◌<◌}
use native.Mathlib.Omega.{arith}
use lib.ListN.{length, get_or, take}
use lib.Seq.{take_all}
use lib.IntN.{ℤ, pos, nat_abs, ◌+ℤ◌}
use lib.Signed.{le_z}
use Rattle.std.proofs.lemmas.Int.{ints}
use Rattle.signed.proofs.Signs.{abs_add}
use Rattle.signed.proofs.Integers.{Le, le_same, le_is, le_then, le_sum, le_of_test}
use Rattle.largest.specs.Largest.{larger, smaller, insert, falling, total, largest_sum}

-- ** The larger and the smaller of two

pub le_larger : (x y : ℤ) → Le x (larger x y)
le_larger x y = le_of_test x (larger x y) (grind (arith, ints))

pub le_larger' : (x y : ℤ) → Le y (larger x y)
le_larger' x y = le_of_test y (larger x y) (grind (arith, ints))

both : (x y : ℤ) → x +ℤ y ≡ larger x y +ℤ smaller x y
both x y = grind (arith, ints)

-- ** The falling list

pub length_insert : (x : ℤ) (values : List ℤ) → length (insert x values) ≡ suc (length values)
unfolding insert
length_insert x [] = refl
length_insert x (y ∷ values) = ap suc (length_insert (smaller x y) values)

pub length_falling : (f : ℕ → ℤ) (n : ℕ) → length (falling f n) ≡ n
unfolding falling
length_falling f zero = refl
length_falling f (suc n) = length_insert (f n) (falling f n) ∙ ap suc (length_falling f n)

pub falling_same : (f g : ℕ → ℤ) (n : ℕ) → ((j : ℕ) → j < n → f j ≡ g j) → falling f n ≡ falling g n
unfolding falling
falling_same f g zero e = refl
falling_same f g (suc n) e = ap₂ (λ (x : ℤ) (l : List ℤ). insert x l) (e n (omega arith)) (falling_same f g n (λ j h. e j (omega arith)))

pub largest_sum_same : (f g : ℕ → ℤ) (n k : ℕ) → ((j : ℕ) → j < n → f j ≡ g j) → largest_sum f n k ≡ largest_sum g n k
unfolding largest_sum
largest_sum_same f g n k e = ap (λ (l : List ℤ). total (take k l)) (falling_same f g n e)

-- of more than there are, all are summed
pub largest_sum_all : (f : ℕ → ℤ) (n k : ℕ) → n ≤ k → largest_sum f n k ≡ largest_sum f n n
unfolding largest_sum
largest_sum_all f n k h =
    let l = length_falling f n in
    ap total (take_all k (falling f n) (omega arith) ∙ sym (take_all n (falling f n) (omega arith)))

-- one more in the list makes no sum of the first k smaller
pub insert_more : (k : ℕ) (x : ℤ) (values : List ℤ) → k ≤ length values → Le (total (take k values)) (total (take k (insert x values)))
unfolding insert total
insert_more zero x [] h = le_same (pos 0)
insert_more zero x (y ∷ values) h = le_same (pos 0)
insert_more (suc k) x [] h = absurd (omega arith)
insert_more (suc k) x (y ∷ values) h = le_sum (le_larger' x y) (insert_more k (smaller x y) values (omega arith))

-- x with the first k of a list is at most the first k + 1 once x is in it
pub insert_with : (k : ℕ) (x : ℤ) (values : List ℤ) → k ≤ length values
    → Le (x +ℤ total (take k values)) (total (take (suc k) (insert x values)))
unfolding insert total
insert_with zero x [] h = le_same (x +ℤ pos 0)
insert_with zero x (y ∷ values) h = le_sum (le_larger x y) (le_same (pos 0))
insert_with (suc k) x [] h = absurd (omega arith)
insert_with (suc k) x (y ∷ values) h =
    le_then (le_is (omega (arith, ints, both x y))) (le_sum (le_same (larger x y)) (insert_with k (smaller x y) values (omega arith)))

-- ** Sizes

pick_small : (t : Bool) (x y : ℤ) (B : ℕ) → nat_abs x ≤ B → nat_abs y ≤ B → nat_abs (cond t x y) ≤ B
pick_small true x y B f g = f
pick_small false x y B f g = g

insert_small : (B : ℕ) (x : ℤ) (l : List ℤ) → nat_abs x ≤ B → ((i : ℕ) → nat_abs (get_or l i (pos 0)) ≤ B) → (i : ℕ)
    → nat_abs (get_or (insert x l) i (pos 0)) ≤ B
unfolding insert
insert_small B x [] h a zero = h
insert_small B x [] h a (suc i) = omega arith
insert_small B x (y ∷ ys) h a zero = pick_small (le_z x y) y x B (a 0) h
insert_small B x (y ∷ ys) h a (suc i) = insert_small B (smaller x y) ys (pick_small (le_z x y) x y B h (a 0)) (λ k. a (suc k)) i

pub falling_small : (B : ℕ) (f : ℕ → ℤ) (n : ℕ) → ((j : ℕ) → j < n → nat_abs (f j) ≤ B) → (i : ℕ) → nat_abs (get_or (falling f n) i (pos 0)) ≤ B
unfolding falling
falling_small B f zero h i = omega arith
falling_small B f (suc n) h i = insert_small B (f n) (falling f n) (h n (omega arith)) (falling_small B f n (λ j g. h j (omega arith))) i

pub total_take_small : (B : ℕ) (l : List ℤ) (t : ℕ) → ((i : ℕ) → nat_abs (get_or l i (pos 0)) ≤ B) → nat_abs (total (take t l)) ≤ t * B
unfolding total
total_take_small B [] zero h = omega arith
total_take_small B [] (suc t) h = omega arith
total_take_small B (x ∷ xs) zero h = omega arith
total_take_small B (x ∷ xs) (suc t) h = omega (arith, abs_add x (total (take t xs)), h 0, total_take_small B xs t (λ i. h (suc i)))

pub largest_sum_small : (B : ℕ) (f : ℕ → ℤ) (n k : ℕ) → ((j : ℕ) → j < n → nat_abs (f j) ≤ B) → nat_abs (largest_sum f n k) ≤ k * B
unfolding largest_sum
largest_sum_small B f n k h = total_take_small B (falling f n) k (falling_small B f n h)
