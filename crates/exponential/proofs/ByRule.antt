-- e(N) by the numbers of document 01, and by N alone. Assumes nothing.
use mathlib.Core.Path.{◌≡◌, refl, sym, ap, ◌∙◌}
use mathlib.Core.Bool.{cond}
use Prim.Native.Nat.{ℕ, zero, suc, ◌+◌, ◌-◌, ◌*◌, ◌/◌, ◌^◌, ◌≤◌, ◌<◌}
use native.Mathlib.Omega.{arith}
use lib.Dec.{ltb}
use lib.ListN.{get_or}
use borrow.Author.Tests.{le-leb, lt-leb, lt-ltb, le-ltb}
use Rattle.exponential.specs.Exponential.{polynomial_entry, polynomial, reciprocal, scaled, evaluate, squared, squarings}
use Rattle.exponential.specs.Exponential.{exp_scaled, exp_with, divisor, exp, limit, exp_or_refusal}
use Rattle.exponential.specs.Exponential.{InTurn, ExponentialInTurn, ExponentialAlone}
use Rattle.exponential.proofs.Table.{table_at}

-- ** In turn

module _ (q n : ℕ) where
  -- v
  abbrev v_of : ℕ
  v_of = n * (2 ^ 84 / q) / 2 ^ 22

  -- the numbers a
  unfoldable numbers : ℕ → ℕ
  numbers zero = polynomial_entry 20
  numbers (suc i) = cond (ltb i 20) (polynomial_entry (19 - i) - numbers i * v_of / 2 ^ 62) ((numbers i * numbers i + 2 ^ 61) / 2 ^ 62)

  evaluated_next : (i : ℕ) → i < 20 → numbers (suc i) ≡ polynomial_entry (19 - i) - numbers i * v_of / 2 ^ 62
  unfolding numbers
  evaluated_next i h = rw (lt-ltb i 20 h)

  squared_next : (i : ℕ) → 20 ≤ i → numbers (suc i) ≡ (numbers i * numbers i + 2 ^ 61) / 2 ^ 62
  unfolding numbers
  squared_next i h = rw (le-ltb i 20 h)

  -- with the entries below j still to come
  evaluated_on : (j i : ℕ) → j + i ≡ 20 → evaluate polynomial (scaled (reciprocal q) n) j (numbers i) ≡ numbers 20
  unfolding evaluate scaled reciprocal
  evaluated_on zero i h = ap numbers (omega arith)
  evaluated_on (suc j) i h =
      let same : j ≡ 19 - i = omega arith in
      let entry : get_or polynomial j 0 ≡ polynomial_entry (19 - i) = table_at j (omega arith) ∙ ap polynomial_entry same in
      let step : get_or polynomial j 0 - numbers i * v_of / 2 ^ 62 ≡ numbers (suc i) = rw entry (sym (evaluated_next i (omega arith))) in
      ap (evaluate polynomial v_of j) step ∙ evaluated_on j (suc i) (omega arith)

  squared_on : (count i : ℕ) → 20 ≤ i → count + i ≡ 26 → squarings count (numbers i) ≡ numbers 26
  unfolding squarings squared
  squared_on zero i low h = ap numbers (omega arith)
  squared_on (suc count) i low h = rw (← squared_next i low) (squared_on count (suc i) (omega arith) (omega arith))

  last_is : exp_with polynomial q n ≡ numbers 26
  unfolding exp_with exp_scaled numbers
  last_is =
      ap (λ (e : ℕ). squarings 6 (evaluate polynomial (scaled (reciprocal q) n) 20 e)) (table_at 20 (omega arith))
      ∙ ap (squarings 6) (evaluated_on 20 0 refl) ∙ squared_on 6 20 (omega arith) refl

  pub in_turn_lem : InTurn q n (exp_with polynomial q n)
  unfolding numbers
  in_turn_lem = record {
    a = numbers;
    start = refl;
    evaluated = evaluated_next;
    squared_next = λ i low high. squared_next i low;
    last = last_is;
  }

pub exponential_in_turn : ExponentialInTurn
unfolding exp
exponential_in_turn n = in_turn_lem divisor n

-- ** By N alone

pub exponential_alone : ExponentialAlone
unfolding exp_or_refusal
exponential_alone n = record {
  up_to = λ h. rw (le-leb n limit h);
  above = λ h. rw (lt-leb n limit h);
}
