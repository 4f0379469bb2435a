-- One turn of a loop that counts down is one step of the definition, and the steps make the exponential. Assumes nothing.
use mathlib.Core.Path.{◌≡◌, refl, ap, ◌∙◌}
use mathlib.Core.List.{List}
use Prim.Native.Nat.{ℕ, zero, suc, ◌-◌, ◌*◌, ◌/◌, ◌^◌, ◌≤◌, ◌<◌}
use native.Mathlib.Nat.{not-suc-le-zero, le_trans, le-mul_of_pos_right, mul-le-mul_right, sub-le}
use native.Mathlib.Omega.{arith}
use lib.ListN.{length, get_or}
use Rattle.exponential.specs.Exponential.{factorial, polynomial_entry, entries_from, polynomial, scaled, evaluate, squared}
use Rattle.exponential.specs.Exponential.{squarings, exp_scaled}
use Rattle.exponential.proofs.Table.{factorial_pos, entry_low, small_entry, table_at}

before_suc : (k : ℕ) → suc k - 1 ≡ k
before_suc k = omega arith

pub squarings_step : (k a : ℕ) → 0 < k → squarings (k - 1) (squared a) ≡ squarings k a
unfolding squarings
squarings_step zero a h = absurd (not-suc-le-zero h)
squarings_step (suc k) a h = rw before_suc

evaluate_step : (table : List ℕ) (v j a : ℕ) → 0 < j
    → evaluate table v (j - 1) (get_or table (j - 1) 0 - a * v / 2 ^ 62) ≡ evaluate table v j a
unfolding evaluate
evaluate_step table v zero a h = absurd (not-suc-le-zero h)
evaluate_step table v (suc j) a h = rw before_suc

-- the evaluation may start from 0 before entry 20
evaluate_start : (table : List ℕ) (v : ℕ) → evaluate table v 21 0 ≡ evaluate table v 20 (get_or table 20 0)
unfolding evaluate
evaluate_start table v = ap (λ (x : ℕ). evaluate table v 20 x) (omega arith)

pub squarings_end : (k a : ℕ) → k ≤ 0 → a ≡ squarings k a
unfolding squarings
squarings_end zero a h = refl
squarings_end (suc k) a h = absurd (not-suc-le-zero h)

evaluate_end : (table : List ℕ) (v j a : ℕ) → j ≤ 0 → a ≡ evaluate table v j a
unfolding evaluate
evaluate_end table v zero a h = refl
evaluate_end table v (suc j) a h = absurd (not-suc-le-zero h)

-- ** The table, at the entry before j

module _ (table : List ℕ) (is : table ≡ polynomial) where
  pub table_length : length table ≡ 21
  unfolding polynomial entries_from
  table_length = ap length is

  read : (k : ℕ) → suc k ≤ 21 → get_or table k 0 ≡ polynomial_entry k
  read k h = ap (λ (t : List ℕ). get_or t k 0) is ∙ table_at k h

  read_above : (j a : ℕ) → 0 < j → j ≤ 21 → a * factorial j ≤ 2 ^ 62 → a ≤ get_or table (j - 1) 0
  read_above zero a h l s = absurd (not-suc-le-zero h)
  read_above (suc k) a h l s = rw (before_suc, read k l) (small_entry k a s)

  read_small : (j : ℕ) → 0 < j → j ≤ 21 → get_or table (j - 1) 0 * factorial (j - 1) ≤ 2 ^ 62
  read_small zero h l = absurd (not-suc-le-zero h)
  read_small (suc k) h l = rw (before_suc, read k l) (entry_low k)

  read_le : (j : ℕ) → 0 < j → j ≤ 21 → get_or table (j - 1) 0 ≤ 2 ^ 62
  read_le j h l =
      le_trans (le-mul_of_pos_right (get_or table (j - 1) 0) (factorial_pos (j - 1))) (read_small j h l)

-- ** The evaluation before the entry j - 1

-- the steps left, from a, give the value; and a times j! is at most 2 ^ 62
pub record Evaluating (table : List ℕ) (v a j : ℕ) : Type 0 where
  pub count : j ≤ 21
  pub small : a * factorial j ≤ 2 ^ 62
  pub value : evaluate table v j a ≡ evaluate table v 20 (get_or table 20 0)

pub evaluating_starts : (table : List ℕ) (v : ℕ) → Evaluating table v 0 21
evaluating_starts table v = record { count = omega arith; small = omega arith; value = evaluate_start table v }

pub evaluating_ends : {table : List ℕ} {v a j : ℕ} → j ≤ 0 → Evaluating table v a j
    → (a ≡ evaluate table v 20 (get_or table 20 0)) × (a ≤ 2 ^ 62)
evaluating_ends {table} {v} {a} {j} h e =
    (evaluate_end table v j a h ∙ e.value, le_trans (le-mul_of_pos_right a (factorial_pos j)) e.small)

module _ {table : List ℕ} (is : table ≡ polynomial) {v a j : ℕ} (more : 0 < j) (e : Evaluating table v a j) where
  -- a step is the difference of two numbers
  pub evaluating_asks : (a ≤ get_or table (j - 1) 0) × (get_or table (j - 1) 0 ≤ 2 ^ 62)
  evaluating_asks = (read_above table is j a more e.count e.small, read_le table is j more e.count)

  pub evaluating_goes_on : Evaluating table v (get_or table (j - 1) 0 - a * v / 2 ^ 62) (j - 1)
  evaluating_goes_on = record {
    count = omega (arith, e.count);
    small = le_trans (mul-le-mul_right (factorial (j - 1)) (sub-le _ _)) (read_small table is j more e.count);
    value = evaluate_step table v j a more ∙ e.value;
  }

-- ** The whole exponential

-- v, the evaluation and the six squarings are those of the definition
pub exp_in_steps : (table : List ℕ) (r n : ℕ) {v a e : ℕ}
    → v ≡ n * r / 2 ^ 22 → a ≡ evaluate table v 20 (get_or table 20 0) → e ≡ squarings 6 a
    → e ≡ exp_scaled table r n
unfolding exp_scaled scaled
exp_in_steps table r n ev ea ee = ee ∙ rw (ea, ev)
