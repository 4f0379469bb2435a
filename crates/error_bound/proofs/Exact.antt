-- The exact fraction's numerator, an integer, as the difference of the sums of its even and of its odd terms. Assumes nothing.
use mathlib.Core.Path.{◌≡◌, refl, sym, ap, ap₂, subst⁻¹, ◌∙◌}
use mathlib.Core.Bool.{Bool, true, false, cond}
use Prim.Native.Nat.{ℕ, zero, suc, ◌+◌, ◌-◌, ◌*◌, ◌^◌, ◌≤◌, ◌<◌}
use native.Mathlib.Nat.{mul-zero, zero-mul, mul-pos, pow-suc, pow-zero, sub-add_cancel, le_of_mul-le-mul_right}
use native.Mathlib.Numerals.{add-one}
use native.Mathlib.Omega.{arith}
use lib.Dec.{ltb}
use lib.IntN.{ℤ, pos, negsuc, one, neg_ℤ, nat_abs, pow, ◌+ℤ◌, ◌-ℤ◌, ◌*ℤ◌, +ℤ_assoc, +ℤ_comm, +ℤ-neg_ℤ_cancel, neg_ℤ-+ℤ}
use borrow.Author.Tests.{ltb-true, ltb-false}
use Rattle.exponential.proofs.Table.{factorial_pos}
use Rattle.error_bound.specs.Exact.{sumℤ, coefficient, term, numerator, denominator, Within, WithinIsNear}

-- f 0 + f 1 + .. + f (k - 1)
unfoldable pub sum : (ℕ → ℕ) → ℕ → ℕ
sum f zero = 0
sum f (suc k) = sum f k + f k

abbrev pub size : (q n j : ℕ) → ℕ
size q n j = n ^ j * coefficient q j

-- the terms of even degree, 0 to 20, and those of odd degree, 1 to 19
unfoldable pub added : (q n : ℕ) → ℕ
added q n = sum (λ (i : ℕ). size q n (2 * i)) 11

unfoldable pub taken : (q n : ℕ) → ℕ
taken q n = sum (λ (i : ℕ). size q n (2 * i + 1)) 10

pos_neg : (a b : ℕ) → pos a *ℤ neg_ℤ (pos b) ≡ neg_ℤ (pos (a * b))
pos_neg a zero = rw mul-zero
pos_neg a (suc b) = refl

neg_pos : (a b : ℕ) → neg_ℤ (pos a) *ℤ pos b ≡ neg_ℤ (pos (a * b))
neg_pos zero b = rw zero-mul
neg_pos (suc a) b = refl

neg_neg : (a b : ℕ) → neg_ℤ (pos a) *ℤ neg_ℤ (pos b) ≡ pos (a * b)
neg_neg zero zero = refl
neg_neg zero (suc b) = rw zero-mul
neg_neg (suc a) zero = rw mul-zero
neg_neg (suc a) (suc b) = refl

-- even powers of -n, and odd ones
even_power : (n i : ℕ) → pow (neg_ℤ (pos n)) (2 * i) ≡ pos (n ^ (2 * i))
unfolding pow one
even_power n zero = rw pow-zero
even_power n (suc i) =
    let e : 2 * suc i ≡ suc (suc (2 * i)) = omega arith in
    rw (e, even_power n i, pos_neg, neg_neg, pow-suc n (suc (2 * i)), pow-suc n (2 * i))

odd_power : (n i : ℕ) → pow (neg_ℤ (pos n)) (suc (2 * i)) ≡ neg_ℤ (pos (n ^ (2 * i + 1)))
unfolding pow
odd_power n i = rw (even_power n i, pos_neg, add-one, pow-suc n (2 * i))

odd_term : (q n i : ℕ) → term q n (suc (2 * i)) ≡ neg_ℤ (pos (size q n (2 * i + 1)))
unfolding term
odd_term q n i =
    ap (λ (x : ℤ). x *ℤ pos (coefficient q (suc (2 * i)))) (odd_power n i)
    ∙ rw add-one (neg_pos (n ^ suc (2 * i)) (coefficient q (suc (2 * i))))

even_term : (q n i : ℕ) → term q n (2 * i) ≡ pos (size q n (2 * i))
unfolding term
even_term q n i = ap (λ (x : ℤ). x *ℤ pos (coefficient q (2 * i))) (even_power n i)

swap : (x y z : ℤ) → x +ℤ y +ℤ z ≡ x +ℤ z +ℤ y
swap x y z = +ℤ_assoc x y z ∙ ap (λ (t : ℤ). x +ℤ t) (+ℤ_comm y z) ∙ sym (+ℤ_assoc x z y)

regroup : (a b c d : ℕ) → pos a -ℤ pos b +ℤ pos c +ℤ neg_ℤ (pos d) ≡ pos (a + c) -ℤ pos (b + d)
regroup a b c d =
    ap (λ (t : ℤ). t +ℤ neg_ℤ (pos d)) (swap (pos a) (neg_ℤ (pos b)) (pos c)) ∙ +ℤ_assoc (pos (a + c)) (neg_ℤ (pos b)) (neg_ℤ (pos d))
    ∙ ap (λ (t : ℤ). pos (a + c) +ℤ t) (sym (neg_ℤ-+ℤ (pos b) (pos d)))

-- the sum of the first 2 * i terms
pairs : (q n i : ℕ) → sumℤ (term q n) (2 * i) ≡ pos (sum (λ (i : ℕ). size q n (2 * i)) i) -ℤ pos (sum (λ (i : ℕ). size q n (2 * i + 1)) i)
unfolding sumℤ sum
pairs q n zero = refl
pairs q n (suc i) =
    let e : 2 * suc i ≡ suc (suc (2 * i)) = omega arith in
    rw (e, pairs q n i, even_term q n i, odd_term q n i)
    (regroup (sum (λ (i : ℕ). size q n (2 * i)) i) (sum (λ (i : ℕ). size q n (2 * i + 1)) i) (size q n (2 * i)) (size q n (2 * i + 1)))

difference : (a b : ℕ) → b ≤ a → pos a -ℤ pos b ≡ pos (a - b)
difference a b h = ap (λ (x : ℕ). pos x -ℤ pos b) (sym (sub-add_cancel h)) ∙ +ℤ-neg_ℤ_cancel (pos (a - b)) (pos b)

numerator_is : (q n : ℕ) → taken q n ≤ added q n → numerator q n ≡ pos (added q n - taken q n)
unfolding numerator sumℤ sum added taken
numerator_is q n h =
    ap₂ (λ (x y : ℤ). x +ℤ y) (pairs q n 10) (even_term q n 10)
    ∙ swap (pos (sum (λ (i : ℕ). size q n (2 * i)) 10)) (neg_ℤ (pos (sum (λ (i : ℕ). size q n (2 * i + 1)) 10))) (pos (size q n 20))
    ∙ difference (added q n) (taken q n) h

power_is : (x k : ℕ) → pow (pos x) k ≡ pos (x ^ k)
unfolding pow one
power_is x zero = rw pow-zero
power_is x (suc k) = rw (power_is x k, pow-suc x k)

distance : (a b k : ℕ) → a ≤ b + k → b ≤ a + k → nat_abs (pos a -ℤ pos b) ≤ k
distance a zero k u l = omega arith
distance a (suc b) k u l = by (ltb a (suc b)) refl
  where
    by : (t : Bool) → ltb a (suc b) ≡ t → nat_abs (cond t (negsuc (suc b - suc a)) (pos (a - suc b))) ≤ k
    by true e = omega (arith, ltb-true a (suc b) e)
    by false e = omega arith

numerator_power : (q n : ℕ) → taken q n ≤ added q n → pow (numerator q n) 64 ≡ pos ((added q n - taken q n) ^ 64)
numerator_power q n h = ap (λ (x : ℤ). pow x 64) (numerator_is q n h) ∙ power_is (added q n - taken q n) 64

-- from the two bounds on naturals to the distance of integers
pub within : (k x q n : ℕ) → taken q n ≤ added q n
    → x * denominator q ^ 64 ≤ 2 ^ 62 * (added q n - taken q n) ^ 64 + k * denominator q ^ 64
    → 2 ^ 62 * (added q n - taken q n) ^ 64 ≤ x * denominator q ^ 64 + k * denominator q ^ 64
    → Within k x q n
unfolding Within
within k x q n h u l =
    let X = x * denominator q ^ 64 in
    let S = 2 ^ 62 * (added q n - taken q n) ^ 64 in
    subst⁻¹ (λ (z : ℤ). nat_abs (pos X -ℤ pos (2 ^ 62) *ℤ z) ≤ k * denominator q ^ 64) (numerator_power q n h)
    (distance X S (k * denominator q ^ 64) u l)

-- ** The distance of numbers near one fraction

above_by : (a b k : ℕ) → nat_abs (pos a -ℤ pos b) ≤ k → (a ≤ b + k) × (b ≤ a + k)
above_by a zero k h = (omega arith, omega arith)
above_by a (suc b) k h = by (ltb a (suc b)) refl h
  where
    by : (t : Bool) → ltb a (suc b) ≡ t → nat_abs (cond t (negsuc (suc b - suc a)) (pos (a - suc b))) ≤ k → (a ≤ suc b + k) × (suc b ≤ a + k)
    by true e g = let l = ltb-true a (suc b) e in (omega arith, omega arith)
    by false e g = (omega arith, let l = ltb-false a (suc b) e in omega arith)

apart : (a b k l : ℕ) (f : ℤ) → nat_abs (pos a -ℤ f) ≤ k → nat_abs (pos b -ℤ f) ≤ l → a ≤ b + (k + l)
apart a b k l (pos m) h g = omega (arith, (above_by a m k h).0, (above_by b m l g).1)
apart a b k l (negsuc m) h g = omega arith

positive_power : (m k : ℕ) → 0 < m → 0 < m ^ k
positive_power m zero h = rw pow-zero (omega arith)
positive_power m (suc k) h = rw pow-suc (mul-pos (positive_power m k h) h)

positive_denominator : (q : ℕ) → 0 < q → 0 < denominator q
unfolding denominator
positive_denominator q h = mul-pos (positive_power q 20 h) (factorial_pos 20)

-- the common factor of a distance falls away
cancel : (x y k l d : ℕ) → 0 < d → x * d ≤ y * d + (k * d + l * d) → x ≤ y + (k + l)
cancel x y k l d h g = le_of_mul-le-mul_right {k = d} (omega arith) h

pub within_is_near : WithinIsNear
unfolding Within
within_is_near k l x y q n h near_x near_y =
    let d = denominator q ^ 64 in
    let exact = pos (2 ^ 62) *ℤ pow (numerator q n) 64 in
    cancel x y k l d (positive_power (denominator q) 64 (positive_denominator q h))
    (apart (x * d) (y * d) (k * d) (l * d) exact near_x near_y)
