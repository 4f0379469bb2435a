-- The sum of the k largest by the k-th largest: k times it, and by how much the others are over it. Assumes nothing.
use mathlib.Core.Path.{◌≡◌, refl, sym, ap, ap₂, ◌∙◌}
use mathlib.Core.Bool.{Bool, true, false, cond, false≢true}
use mathlib.Core.List.{List, [], ◌∷◌}
use Prim.Native.Nat.{ℕ, zero, suc, ◌+◌, ◌*◌, ◌≤◌}
use native.Mathlib.Decide.{dec_le}
use native.Mathlib.Omega.{arith}
use native.Mathlib.Numerals.{add-one}
use lib.ListN.{take}
use lib.IntN.{ℤ, pos, negsuc, ◌+ℤ◌, ◌-ℤ◌, ◌*ℤ◌, suc_ℤ-*ℤ, zero-*ℤ, +ℤ_comm, +ℤ_assoc, -ℤ-+ℤ_cancel}
use lib.Signed.{le_z}
use Rattle.std.proofs.lemmas.Int.{ints}
use Rattle.signed.proofs.Integers.{Le, le_of_test, test_of_le}
use Rattle.largest.specs.Largest.{larger, smaller, insert, falling, total, largest_sum}
use Rattle.largest.specs.Threshold.{sum_over, reaches, positive_part, excess, IsKth}
use Rattle.largest.proofs.Falling.{le_larger, le_larger'}

-- ** Sums over numbers

module _ (g : ℤ → ℕ) (f : ℕ → ℤ) where
  pub sum_none : sum_over g f 0 ≡ 0
  unfolding sum_over
  sum_none = refl

  pub sum_more : (j : ℕ) → sum_over g f (j + 1) ≡ sum_over g f j + g (f j)
  unfolding sum_over
  sum_more j = ap (sum_over g f) (add-one j)

  pub sum_rises : (j n : ℕ) → j ≤ n → sum_over g f j ≤ sum_over g f n
  unfolding sum_over
  sum_rises j zero h = let none : j ≡ 0 = omega arith in rw none (omega arith)
  sum_rises j (suc n) h = by (dec_le j n) (sum_rises j n)
    where
      by : Dec (j ≤ n) → (j ≤ n → sum_over g f j ≤ sum_over g f n) → sum_over g f j ≤ sum_over g f n + g (f n)
      by (yes b) before = omega (arith, before b)
      by (no b) before = let last : j ≡ suc n = omega arith in rw last (omega arith)

  pub sum_scaled : (h : ℤ → ℕ) (scale : ℕ) → ((j : ℕ) → g (f j) ≤ scale * h (f j)) → (n : ℕ) → sum_over g f n ≤ scale * sum_over h f n
  unfolding sum_over
  sum_scaled h scale e zero = omega arith
  sum_scaled h scale e (suc n) = omega (arith, sum_scaled h scale e n, e n)

  pub sum_alike : (each : ℕ) → ((j : ℕ) → g (f j) ≡ each) → (n : ℕ) → sum_over g f n ≡ n * each
  unfolding sum_over
  sum_alike each h zero = omega arith
  sum_alike each h (suc n) = omega (arith, sum_alike each h n, h n)

-- ** The same over a list

unfoldable sum_of : (g : ℤ → ℕ) (values : List ℤ) → ℕ
sum_of g [] = 0
sum_of g (v ∷ values) = g v + sum_of g values

module _ (g : ℤ → ℕ) where
  both : (x y : ℤ) → g (larger x y) + g (smaller x y) ≡ g x + g y
  both x y = grind arith

  sum_insert : (x : ℤ) (values : List ℤ) → sum_of g (insert x values) ≡ g x + sum_of g values
  unfolding sum_of insert
  sum_insert x [] = refl
  sum_insert x (y ∷ values) = omega (arith, sum_insert (smaller x y) values, both x y)

  sum_falling : (f : ℕ → ℤ) (n : ℕ) → sum_of g (falling f n) ≡ sum_over g f n
  unfolding sum_of falling sum_over
  sum_falling f zero = refl
  sum_falling f (suc n) = omega (arith, sum_insert (f n) (falling f n), sum_falling f n)

-- ** A falling list: none of the later values reaches what is over the first

unfoldable Falls : List ℤ → Type 0
Falls [] = Unit {0}
Falls (v ∷ values) = ((t : ℤ) → le_z t v ≡ false → sum_of (reaches t) values ≡ 0) × Falls values

-- what is over one number is over any that is at most it
not_reached : (a b t : ℤ) → Le a b → le_z t b ≡ false → le_z t a ≡ false
not_reached a b t h e = let f = h.is in grind (arith, ints)

smaller_of : (x y t : ℤ) → le_z t x ≡ false → le_z t y ≡ false → le_z t (smaller x y) ≡ false
smaller_of x y t h g = grind arith

insert_falls : (x : ℤ) (values : List ℤ) → Falls values → Falls (insert x values)
unfolding Falls insert sum_of
insert_falls x [] h = ((λ t e. refl), tt)
insert_falls x (y ∷ values) h = (first, insert_falls (smaller x y) values h.1)
  where
    first : (t : ℤ) → le_z t (larger x y) ≡ false → sum_of (reaches t) (insert (smaller x y) values) ≡ 0
    first t e =
        let over_y = not_reached y (larger x y) t (le_larger' x y) e in
        let none : reaches t (smaller x y) ≡ 0 = rw (smaller_of x y t (not_reached x (larger x y) t (le_larger x y) e) over_y) in
        omega (arith, sum_insert (reaches t) (smaller x y) values, h.0 t over_y)

falling_falls : (f : ℕ → ℤ) (n : ℕ) → Falls (falling f n)
unfolding falling Falls
falling_falls f zero = tt
falling_falls f (suc n) = insert_falls (f n) (falling f n) (falling_falls f n)

-- ** The first k values of a falling list, by the k-th

-- t + m is over t by m
difference : (t x : ℤ) (m : ℕ) → x ≡ t +ℤ pos m → x -ℤ t ≡ pos m
difference t x m e = omega (arith, ints)

-- a number that is at least t is over it by their difference
excess_is : (t x : ℤ) → le_z t x ≡ true → pos (excess t x) ≡ x -ℤ t
excess_is t x e =
    let h = le_of_test t x e in
    let d = difference t x h.more h.is in
    ap (λ (y : ℤ). pos (positive_part y)) d ∙ sym d

-- one that does not reach t + 1 is not over t
pub not_over : (t x : ℤ) → le_z (t +ℤ pos 1) x ≡ false → excess t x ≡ 0
not_over t x e = by (x -ℤ t) refl
  where
    one_more : (m : ℕ) → suc m ≡ 1 + m
    one_more m = omega arith

    by : (d : ℤ) → x -ℤ t ≡ d → positive_part d ≡ 0
    by (pos zero) f = refl
    by (pos (suc m)) f =
        let is : x ≡ (t +ℤ pos 1) +ℤ pos m = sym (-ℤ-+ℤ_cancel x t) ∙ ap (λ (y : ℤ). y +ℤ t) f ∙ +ℤ_comm (pos (suc m)) t
        ∙ ap (λ (y : ℕ). t +ℤ pos y) (one_more m) ∙ sym (+ℤ_assoc t (pos 1) (pos m)) in
        absurd (false≢true (sym e ∙ test_of_le (t +ℤ pos 1) x (record { more = m; is = is })))
    by (negsuc m) f = refl

module _ (t : ℤ) where
  -- where one is over it, the first is, and where fewer than k reach t + 1, so do the later ones
  first_reaches : (v : ℤ) (values : List ℤ) (k : ℕ) → Falls (v ∷ values) → suc k ≤ sum_of (reaches t) (v ∷ values) → le_z t v ≡ true
  unfolding Falls sum_of
  first_reaches v values k h e = by (le_z t v) refl e
    where
      by : (r : Bool) → le_z t v ≡ r → suc k ≤ cond r 1 0 + sum_of (reaches t) values → r ≡ true
      by true f g = refl
      by false f g = absurd (omega (arith, h.0 t f))

  later_over : (v : ℤ) (values : List ℤ) (k : ℕ) → Falls (v ∷ values) → sum_of (reaches (t +ℤ pos 1)) (v ∷ values) ≤ suc k
      → sum_of (reaches (t +ℤ pos 1)) values ≤ k
  unfolding Falls sum_of
  later_over v values k h e = by (le_z (t +ℤ pos 1) v) refl e
    where
      by : (r : Bool) → le_z (t +ℤ pos 1) v ≡ r → cond r 1 0 + sum_of (reaches (t +ℤ pos 1)) values ≤ suc k
          → sum_of (reaches (t +ℤ pos 1)) values ≤ k
      by true f g = omega arith
      by false f g = omega (arith, h.0 (t +ℤ pos 1) f)

  -- x = t + (x - t)
  from_threshold : (x q e : ℤ) → x +ℤ (q +ℤ e) ≡ (q +ℤ t) +ℤ ((x -ℤ t) +ℤ e)
  from_threshold x q e = omega (arith, ints)

  by_threshold : (k : ℕ) (values : List ℤ) → Falls values → k ≤ sum_of (reaches t) values → sum_of (reaches (t +ℤ pos 1)) values ≤ k
      → total (take k values) ≡ (pos k *ℤ t) +ℤ pos (sum_of (excess t) values)
  unfolding Falls sum_of total
  by_threshold zero [] h a b = sym (ap (λ (y : ℤ). y +ℤ pos 0) (zero-*ℤ t))
  by_threshold (suc k) [] h a b = absurd (omega arith)
  by_threshold zero (v ∷ values) h a b = by (by_threshold zero values h.1 (omega arith)) (le_z (t +ℤ pos 1) v) refl b
    where
      by : (sum_of (reaches (t +ℤ pos 1)) values ≤ 0 → pos 0 ≡ (pos 0 *ℤ t) +ℤ pos (sum_of (excess t) values)) → (r : Bool)
          → le_z (t +ℤ pos 1) v ≡ r → cond r 1 0 + sum_of (reaches (t +ℤ pos 1)) values ≤ 0
          → pos 0 ≡ (pos 0 *ℤ t) +ℤ pos (excess t v + sum_of (excess t) values)
      by later true f g = absurd (omega arith)
      by later false f g =
          later (omega arith)
          ∙ ap (λ (m : ℕ). (pos 0 *ℤ t) +ℤ pos m) (omega (arith, not_over t v f))
  by_threshold (suc k) (v ∷ values) h a b =
      let reached = first_reaches v values k h a in
      let one : reaches t v ≡ 1 = rw reached in
      let later = by_threshold k values h.1 (omega arith) (later_over v values k h b) in
      ap (λ (y : ℤ). v +ℤ y) later
      ∙ from_threshold v (pos k *ℤ t) (pos (sum_of (excess t) values))
      ∙ ap₂ (λ (y z : ℤ). y +ℤ z) (sym (suc_ℤ-*ℤ (pos k) t))
      (ap (λ (y : ℤ). y +ℤ pos (sum_of (excess t) values)) (sym (excess_is t v reached)))

pub largest_by_kth : (f : ℕ → ℤ) (n k : ℕ) (t : ℤ) → IsKth f n k t → largest_sum f n k ≡ (pos k *ℤ t) +ℤ pos (sum_over (excess t) f n)
unfolding largest_sum
largest_by_kth f n k t h =
    let enough = h.enough in
    let over = h.over in
    by_threshold t k (falling f n) (falling_falls f n)
    (omega (arith, sum_falling (reaches t) f n))
    (omega (arith, sum_falling (reaches (t +ℤ pos 1)) f n))
    ∙ ap (λ (m : ℕ). (pos k *ℤ t) +ℤ pos m) (sum_falling (excess t) f n)
