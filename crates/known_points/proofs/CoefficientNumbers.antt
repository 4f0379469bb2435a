-- Request S-2 in numbers. The points that leave no word open are computed. Assumes nothing.
use mathlib.Core.Path.{◌≡◌, refl}
use mathlib.Core.Bool.{Bool, true, false}
use mathlib.Core.List.{List}
use Prim.Native.Nat.{ℕ, ◌<◌}
use native.Mathlib.Omega.{arith}
use lib.IntN.{ℤ, pos, negsuc, nat_abs}
use lib.ListN.{length, get_or, replicate}
use Rattle.response.specs.Response.{subtracts, response_z, response_bit}
use Rattle.response.proofs.Passes.{response_of_none}
use Rattle.response.proofs.ByRule.{bit_by_tests}
use Rattle.known_points.specs.KnownPoints.{e, with_zeros}
use Rattle.known_points.specs.CoefficientNumbers.{last_of_first_half, bit_of_noise, CoefficientNumbers}
use Rattle.known_points.proofs.KnownPoints.{cosh_one}
use Rattle.known_points.proofs.Computing.{whole_calls, lists}

never_true : (t : Bool) → (t ≡ true → ⊥) → t ≡ false
never_true true h = absurd (h refl)
never_true false h = refl

too_large : (n : ℕ) (y sc : List ℤ) (words : List ℕ) (i : ℕ) → i < n → 2100 < nat_abs (get_or (response_z y sc words) i (pos 0))
    → response_bit e n y sc words ≡ false
too_large n y sc words i h g =
    never_true (response_bit e n y sc words) (λ b. omega (arith, ((bit_by_tests e n y sc words).0 b).coefficients i h))

-- the same where Sc is zero, so that z is y
noise_too_large : (y : List ℤ) (words : List ℕ) (i : ℕ) → length y ≡ 8 → i < 4 → 2100 < nat_abs (get_or y i (pos 0))
    → bit_of_noise y words ≡ false
unfolding response_z
noise_too_large y words i l h g =
    too_large 4 y (replicate 8 (pos 0)) words i h (rw (response_of_none (subtracts (get_or words 0 0)) y 8 l) g)

pub coefficient_numbers : CoefficientNumbers
unfolding whole_calls lists
coefficient_numbers = record {
  largest = cosh_one;
  smallest = cosh_one;
  larger_first = λ words. noise_too_large (with_zeros (pos 2101)) words 0 refl (omega arith) (omega arith);
  smaller_first = λ words. noise_too_large (with_zeros (negsuc 2100)) words 0 refl (omega arith) (omega arith);
  larger_last = λ words. noise_too_large (last_of_first_half (pos 2101)) words 3 refl (omega arith) (omega arith);
  smaller_last = λ words. noise_too_large (last_of_first_half (negsuc 2100)) words 3 refl (omega arith) (omega arith);
  larger = too_large;
  second_half = cosh_one;
  by_plus = λ word₁ word₂. refl;
  by_minus = refl;
  noise_larger = refl;
  handed_back = refl;
  rejected = refl;
}
