-- The rows of the table, one at a time, and their sums: the loops of `first_row` and `final_sum`. Assumes nothing.
use mathlib.Core.Path.{◌≡◌, refl, sym, ap, ap₂, subst, ◌∙◌}
use mathlib.Core.List.{List}
use Prim.Native.Nat.{ℕ, zero, suc, ◌+◌, ◌-◌, ◌*◌, ◌≤◌, ◌<◌}
use native.Mathlib.Nat.{mul-le-mul_right}
use native.Mathlib.Omega.{arith}
use native.Mathlib.Numerals.{add-one}
use native.Mathlib.Decide.{ℕ_discrete, dec_lt}
use lib.ListN.{length, get_or, set, replicate}
use Rattle.std.proofs.lemmas.List.{get_or_past}
use lib.Seq.{get_or-set_same, get_or-set_other}
use lib.IntN.{ℤ, pos, neg_ℤ, nat_abs, ◌+ℤ◌}
use Rattle.signed.proofs.Signs.{abs_add, abs_neg}
use Rattle.largest.specs.Largest.{largest_sum}
use Rattle.largest.specs.Threshold.{value_at}
use Rattle.largest.proofs.Falling.{largest_sum_same, largest_sum_small}
use Rattle.key_check.specs.KeyCheck.{table, row_sum, final_sum}
use Rattle.key_check.specs.Rows.{sum_to, terms, Holds, entry_bound, row_sum_bound, HoldsRow, turned, MovedOn}
use Rattle.key_check.proofs.Table.{table_is, symmetric, table_on, next_first}

-- ** A buffer that holds the first values of a function

zeros_at : (count j : ℕ) → get_or (replicate count (pos 0)) j (pos 0) ≡ pos 0
zeros_at zero j = refl
zeros_at (suc count) zero = refl
zeros_at (suc count) (suc j) = zeros_at count j

module _ (f : ℕ → ℤ) (bound : ℕ) where
  pub holds_none : (n : ℕ) → Holds f bound (replicate n (pos 0)) 0
  holds_none n = record { at = λ j h. absurd (omega arith); small = λ j. rw (zeros_at n j) (omega arith) }

  pub holds_more : (values : List ℤ) (v : ℤ) (n : ℕ) → Holds f bound values n → n < length values → v ≡ f n → nat_abs v ≤ bound
      → Holds f bound (set values n v) (n + 1)
  holds_more values v n h g e s = record { at = λ j k. at j k (ℕ_discrete j n); small = λ j. small j (ℕ_discrete j n) }
    where
      here : get_or (set values n v) n (pos 0) ≡ v
      here = get_or-set_same values n v (pos 0) g

      at : (j : ℕ) → j < n + 1 → Dec (j ≡ n) → get_or (set values n v) j (pos 0) ≡ f j
      at j k (yes q) = subst (λ (i : ℕ). get_or (set values n v) i (pos 0) ≡ f i) (sym q) (here ∙ e)
      at j k (no q) = get_or-set_other values n j v (pos 0) q ∙ h.at j (omega arith)

      small : (j : ℕ) → Dec (j ≡ n) → nat_abs (get_or (set values n v) j (pos 0)) ≤ bound
      small j (yes q) = rw (q, here) s
      small j (no q) = rw (get_or-set_other values n j v (pos 0) q) (h.small j)

  pub sum_of : (values : List ℤ) (n count : ℕ) → Holds f bound values n
      → (largest_sum (value_at values) n count ≡ largest_sum f n count) × (nat_abs (largest_sum (value_at values) n count) ≤ count * bound)
  sum_of values n count h =
      (largest_sum_same (value_at values) f n count h.at, largest_sum_small bound (value_at values) n count (λ j g. h.small j))

-- ** Row 0, and the next row

module _ (key : List ℤ) (n : ℕ) where
  -- an entry of row 0, by its halves
  pub entry_is : (j : ℕ) (first second : ℤ) → first ≡ sum_to (terms key n 0 j 0) n → second ≡ sum_to (terms key n n j 0) n
      → first +ℤ second ≡ table key n 0 j
  entry_is j first second e g = ap₂ (λ (x y : ℤ). x +ℤ y) e g ∙ sym (table_is key n j 0) ∙ symmetric key n j 0

  pub entry_small : (first second : ℤ) → nat_abs first ≤ 49 * n → nat_abs second ≤ 49 * n → n ≤ 1024 → nat_abs (first +ℤ second) ≤ entry_bound
  entry_small first second e g h = omega (arith, abs_add first second)

  pub next_row : (i : ℕ) (row row' : List ℤ) → i < n → length row ≡ n → HoldsRow key n i row → MovedOn row row'
      → HoldsRow key n (i + 1) row'
  next_row i row row' h size r m = record {
    at = λ j k. m.on j (omega arith) ∙ at j k;
    small = λ j. small j (dec_lt j n);
  }
    where
      at : (j : ℕ) → j < n → get_or (turned row) j (pos 0) ≡ table key n (i + 1) j
      at zero k =
          ap neg_ℤ (ap (λ (m : ℕ). get_or row (m - 1) (pos 0)) size ∙ r.at (n - 1) (omega arith)) ∙ sym (next_first key n i h)
          ∙ ap (λ (x : ℕ). table key n x 0) (sym (add-one i))
      at (suc j) k =
          r.at j (omega arith) ∙ sym (table_on key n i j h (omega arith)) ∙ ap (λ (x : ℕ). table key n x (suc j)) (sym (add-one i))

      front : (j : ℕ) → nat_abs (get_or (turned row) j (pos 0)) ≤ entry_bound
      front zero = rw (abs_neg (get_or row (length row - 1) (pos 0))) (r.small (length row - 1))
      front (suc j) = r.small j

      small : (j : ℕ) → Dec (j < n) → nat_abs (get_or row' j (pos 0)) ≤ entry_bound
      small j (yes k) = rw (m.on j (omega arith)) (front j)
      small j (no k) = rw (get_or_past row' j (pos 0) (omega (arith, m.size))) (omega arith)

-- ** Sums

module _ (key : List ℤ) (n count : ℕ) (few : count ≤ 64) where
  pub row_sum_lem : (i : ℕ) (row : List ℤ) → HoldsRow key n i row
      → (largest_sum (value_at row) n count ≡ row_sum key n count i) × (nat_abs (largest_sum (value_at row) n count) ≤ row_sum_bound)
  unfolding row_sum
  row_sum_lem i row h = let s = sum_of (table key n i) entry_bound row n count h in (s.0, omega (arith, s.1, mul-le-mul_right entry_bound few))

  pub final_sum_lem : (sums : List ℤ) → Holds (row_sum key n count) row_sum_bound sums n
      → (largest_sum (value_at sums) n count ≡ final_sum key n count) × (nat_abs (final_sum key n count) ≤ 64 * row_sum_bound)
  unfolding final_sum
  final_sum_lem sums h =
      let s = sum_of (row_sum key n count) row_sum_bound sums n count h in
      (s.0, omega (arith, ap nat_abs s.0, s.1, mul-le-mul_right row_sum_bound few))
