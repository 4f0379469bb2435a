-- The exact fraction that e(N) stands for: the 64th power of the sum over j = 0..20 of (-N / q) ^ j / j!.
-- It is written over integers: each term of the sum has the denominator q ^ 20 * 20!. Assumes nothing.
use Rattle.std.specs.Prelude.{◌≡◌, ℕ, zero, suc, ◌+◌, ◌-◌, ◌*◌, ◌^◌, ◌≤◌, ◌<◌, ℤ, pos, neg_ℤ, nat_abs, ◌+ℤ◌, ◌-ℤ◌, ◌*ℤ◌}
use Rattle.std.proofs.Math.IntN.{pow}
use Rattle.exponential.specs.Exponential.{factorial}

-- f 0 + f 1 + .. + f (count - 1)
unfoldable pub sumℤ : (ℕ → ℤ) → ℕ → ℤ
sumℤ f zero = pos 0
sumℤ f (suc count) = sumℤ f count +ℤ f count

-- (j + 1) * (j + 2) * .. * (j + count)
unfoldable pub product_above : (j count : ℕ) → ℕ
product_above j zero = 1
product_above j (suc count) = (j + suc count) * product_above j count

-- q ^ (20 - j) * (20! / j!)
unfoldable pub coefficient : (q j : ℕ) → ℕ
coefficient q j = q ^ (20 - j) * product_above j (20 - j)

-- the numerator of (-N / q) ^ j / j!
unfoldable pub term : (q n j : ℕ) → ℤ
term q n j = pow (neg_ℤ (pos n)) j *ℤ pos (coefficient q j)

-- the numerator of the sum
unfoldable pub numerator : (q n : ℕ) → ℤ
numerator q n = sumℤ (term q n) 21

unfoldable pub denominator : ℕ → ℕ
denominator q = q ^ 20 * factorial 20

-- (-N) ^ j * coefficient / denominator is (-N / q) ^ j / j!
abbrev pub CommonDenominator : Type 0
CommonDenominator = (q j : ℕ) → j ≤ 20 → coefficient q j * (q ^ j * factorial j) ≡ denominator q

-- x units of 2 ^ -62 differ from (numerator / denominator) ^ 64 by at most k units:
-- | x - 2 ^ 62 * (numerator / denominator) ^ 64 | ≤ k, multiplied by denominator ^ 64
unfoldable pub Within : (k x q n : ℕ) → Type 0
Within k x q n = nat_abs (pos (x * denominator q ^ 64) -ℤ pos (2 ^ 62) *ℤ pow (numerator q n) 64) ≤ k * denominator q ^ 64

-- it is a distance: two numbers of units, within k and within l units of one exact fraction, differ by at most k + l
abbrev pub WithinIsNear : Type 0
WithinIsNear = (k l x y q n : ℕ) → 0 < q → Within k x q n → Within l y q n → x ≤ y + (k + l)
