-- Document 01 on the exponential, in numbers: the polynomial table, the divisor, and refusal 12. Assumes nothing.
use Rattle.std.specs.Prelude.{◌≡◌, [], ◌∷◌, ◌+◌, ◌*◌, ◌^◌, length}
use Rattle.exponential.specs.Exponential.{polynomial_entry, polynomial, divisor, exp_or_refusal}

pub record ExponentialNumbers : Type 0 where
  -- the polynomial table has 21 words: entry 0 = entry 1 = 2 ^ 62, entry 19 = 37, entry 20 = 1
  pub entries_21 : length polynomial ≡ 21
  pub entry_0 : polynomial_entry 0 ≡ 2 ^ 62
  pub entry_1 : polynomial_entry 1 ≡ 2 ^ 62
  pub entry_19 : polynomial_entry 19 ≡ 37
  pub entry_20 : polynomial_entry 20 ≡ 1
  -- all of them
  pub entries_are : polynomial
      ≡ 4611686018427387904 ∷ 4611686018427387904 ∷ 2305843009213693952 ∷ 768614336404564650 ∷ 192153584101141162
      ∷ 38430716820228232 ∷ 6405119470038038 ∷ 915017067148291 ∷ 114377133393536 ∷ 12708570377059 ∷ 1270857037705
      ∷ 115532457973 ∷ 9627704831 ∷ 740592679 ∷ 52899477 ∷ 3526631 ∷ 220414 ∷ 12965 ∷ 720 ∷ 37 ∷ 1 ∷ []
  -- 5,916,800 = 64 * 92,450, and 92,450 = 2 * 215 ^ 2
  pub divisor_by_64 : divisor ≡ 64 * 92450
  pub twice_215_squared : 92450 ≡ 2 * 215 ^ 2
  -- by N alone, N over its limit
  pub refusal_12 : exp_or_refusal 5534961 ≡ 2 ^ 63 + 12
