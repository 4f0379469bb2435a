-- Numbers beside a threshold: how many reach it, by how much they exceed it, and when it is the k-th largest. Assumes nothing.
use Rattle.std.specs.Prelude.{cond, List, ℕ, zero, suc, ◌+◌, ◌≤◌, ◌<◌, ℤ, pos, negsuc, nat_abs, ◌+ℤ◌, ◌-ℤ◌, length, get_or}
use Rattle.std.specs.Int.Signed.{le_z}

-- the values of a list as numbers at places
abbrev pub value_at : (values : List ℤ) (j : ℕ) → ℤ
value_at values j = get_or values j (pos 0)

-- the sizes of values are below 2 ^ 23
abbrev pub value_bound : ℕ
value_bound = 8388608

-- those of thresholds are at most 2 ^ 23 + 2 ^ 24: the search starts at -2 ^ 23, and goes up by less than 2 ^ 24
abbrev pub threshold_bound : ℕ
threshold_bound = 25165824

-- what the functions ask of values[..n]: they are there, not too many, and small
pub record InRange (values : List ℤ) (n : ℕ) : Type 0 where
  pub there : n ≤ length values
  pub few : n ≤ 1024
  pub small : (j : ℕ) → nat_abs (value_at values j) < value_bound

-- g (f 0) + .. + g (f (n - 1))
unfoldable pub sum_over : (g : ℤ → ℕ) (f : ℕ → ℤ) (n : ℕ) → ℕ
sum_over g f zero = 0
sum_over g f (suc n) = sum_over g f n + g (f n)

-- 1 where x is at least t, else 0
abbrev pub reaches : (t x : ℤ) → ℕ
reaches t x = cond (le_z t x) 1 0

-- a number where it is positive, else 0
abbrev pub positive_part : ℤ → ℕ
positive_part (pos m) = m
positive_part (negsuc m) = 0

-- by how much x is over t, else 0
abbrev pub excess : (t x : ℤ) → ℕ
excess t x = positive_part (x -ℤ t)

-- t is the k-th largest of f 0, .. f (n - 1): at least k of them reach it, and fewer than k reach t + 1
pub record IsKth (f : ℕ → ℤ) (n k : ℕ) (t : ℤ) : Type 0 where
  pub enough : k ≤ sum_over (reaches t) f n
  pub over : sum_over (reaches (t +ℤ pos 1)) f n < k
