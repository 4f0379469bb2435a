-- A value, by the number of the 34 bits that its longest form has. Assumes nothing.
use mathlib.Core.Path.{◌≡◌, refl, ap, ◌∙◌}
use mathlib.Core.Bool.{Bool, true, false, not, ◌&&◌, ◌||◌}
use Prim.Native.Nat.{ℕ, suc, ◌+◌, ◌/◌, ◌%◌, ◌^◌}
use lib.Arith.{digits_div, digits_mod}
use lib.Count.{count_leading_zeros}
use lib.Dec.{eqb, leb, ltb}
use mir.Val.{bool_byte}
use Rattle.bits.specs.Bits.{number}
use Rattle.bits.proofs.Numbers.{bit_is_one, number_below, number_first, number_split, number_part}
use Rattle.bits.proofs.Streams.{leading_zeros}
use Rattle.checks.proofs.JoinedTests.{below_not_above}
use Rattle.record.specs.Record.{value_limit}
use Rattle.record.specs.Reading.{zeros_at, size_at, is_value}

module _ (s : ℕ → Bool) (at : ℕ) where
  pub record Parts (form : ℕ) : Type 0 where
    pub sign : eqb (form / 2 ^ 33) 1 ≡ s at
    pub low : form / 2 ^ 26 % 128 ≡ number s (at + 1) 7
    pub over : count_leading_zeros 64 (form % 2 ^ 26) ≡ 38 + zeros_at s at

  pub parts : (form : ℕ) → form ≡ number s at 34 → Parts form
  parts form e = record {
    sign =
        ap (λ (x : ℕ). eqb (x / 2 ^ 33) 1) (e ∙ number_first s at 33)
        ∙ ap (λ (x : ℕ). eqb x 1) (digits_div (bool_byte (s at)) (number_below s (suc at) 33))
        ∙ bit_is_one (s at);
    low = ap (λ (x : ℕ). x / 2 ^ 26 % 128) e ∙ number_part s at 1 7 26;
    over =
        ap (λ (x : ℕ). count_leading_zeros 64 (x % 2 ^ 26)) (e ∙ number_split s at 8 26)
        ∙ ap (count_leading_zeros 64) (digits_mod (number s at 8) (number_below s (at + 8) 26))
        ∙ leading_zeros s 38 (at + 8) 26;
  }

  -- ** Whether it is a value, as code tests that it is none

  none_joined : (small zero : Bool) → (not small || zero) ≡ not (small && not zero)
  none_joined true true = refl
  none_joined true false = refl
  none_joined false zero = refl

  -- the size and the sign that are read
  pub none_is : {size : ℕ} {minus : Bool} → size ≡ size_at s at → minus ≡ s at → (ltb value_limit size || (minus && eqb size 0)) ≡ not (is_value s at)
  unfolding is_value
  none_is {size = size} {minus = minus} e f =
      rw (below_not_above value_limit size, none_joined (leb size value_limit) (minus && eqb size 0), e, f)
