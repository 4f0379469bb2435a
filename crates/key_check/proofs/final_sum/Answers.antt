-- `key_check::final_sum` meets its contract: before a turn its row is held, and the sums of the rows before it. Assumes nothing.
use Rattle.std.proofs.Common.{arith, ◌≡◌, ◌*◌, ◌<◌, ◌≤◌, ℕ, List, ℤ, pos, nat_abs, length, take, replicate, sym, ap, subst, ◌∙◌}
use Rattle.std.proofs.lemmas.List.{take-replicate}
use lib.ListN.{length-replicate}
use mir.Syntax.{w32}
use mir.Val.{SFits, to_z, of_z}
use Rattle.signed.proofs.Signs.{read_back}
use Rattle.largest.specs.Largest.{largest_sum}
use Rattle.largest.specs.Threshold.{value_at}
use Rattle.key_check.specs.KeyCheck.{row_sum, final_sum}
use Rattle.key_check.specs.Rows.{Keyed, Holds, HoldsRow, row_sum_bound}
use Rattle.key_check.proofs.RowsHeld.{holds_none, holds_more, next_row, row_sum_lem, final_sum_lem}
use Rattle.key_check.proofs.KeyPromise.{never_negative}
use Rattle.key_check.proofs.final_sum.Goals as goal
use Rattle.key_check.proofs.final_sum.Goals.{After-largest_sum-2}

-- ** The buffers, of which the first n values are used

zeros_taken : (n : ℕ) → n ≤ 1024 → take n (replicate 1024 (pos 0)) ≡ replicate n (pos 0)
zeros_taken n h = take-replicate n 1024 (pos 0) h

taken_long : (n : ℕ) → n ≤ 1024 → length (take n (replicate 1024 (pos 0))) ≡ n
taken_long n h = ap length (zeros_taken n h) ∙ length-replicate n (pos 0)

row_ready : (key : List ℤ) (n : ℕ) (row : List ℤ) → row ≡ replicate n (pos 0) → Keyed key n
    → Keyed key (length row) × (row ≡ replicate (length row) (pos 0))
row_ready key n row e k = let size : length row ≡ n = ap length e ∙ length-replicate n (pos 0) in rw size (k, e)

pub first_row-requires : goal.first_row-requires
first_row-requires c = row_ready c.args.key.now c.args.n _ (zeros_taken c.args.n c.requires.0.most) c.requires.0

pub loop-sum-init : goal.loop-sum-init
loop-sum-init c =
    let a = c.args in
    let most = c.requires.0.most in (
      subst (λ (m : ℕ). HoldsRow a.key.now m 0 c.first_row.new.row) (taken_long a.n most) c.first_row.ensures,
      subst (λ (sums : List ℤ). Holds (row_sum a.key.now a.n a.count) row_sum_bound sums 0) (sym (zeros_taken a.n most))
          (holds_none (row_sum a.key.now a.n a.count) row_sum_bound a.n),
    )

-- ** A turn

-- the sum of a row, as it is stored
stored : (key : List ℤ) (n count i : ℕ) (row : List ℤ) (sum : ℤ) → count ≤ 64 → HoldsRow key n i row → length row ≡ n → SFits w32 sum
    → sum ≡ largest_sum (value_at row) (length row) count
    → (to_z w32 (of_z w32 sum) ≡ row_sum key n count i) × (nat_abs (to_z w32 (of_z w32 sum)) ≤ row_sum_bound)
stored key n count i row sum few held size fits e =
    let is : to_z w32 (of_z w32 sum) ≡ largest_sum (value_at row) n count = read_back fits ∙ (rw size at e) in
    let s = row_sum_lem key n count few i row held in
    (is ∙ s.0, rw is s.1)

pub loop-sum-preserved : goal.loop-sum-preserved
loop-sum-preserved c =
    let a = c.args in
    let t = c.loop-sum in
    let i = t.sum-index in
    let taken = taken_long a.n c.requires.0.most in
    let row_long : length t.row ≡ a.n = t.auto.row ∙ c.first_row.auto.row ∙ taken in
    let sums_long : length t.sums ≡ a.n = t.auto.sums ∙ taken in
    let test : i < length (take a.n (replicate 1024 (pos 0))) = c.loop-sum-test.true in
    let below : i < a.n = omega arith in
    let sum = stored a.key.now a.n a.count i t.row c.largest_sum.result c.requires.3 t.invariant.0 row_long
    (record { sfits = c.largest_sum.type_inv }) c.largest_sum.ensures in (
      next_row a.key.now a.n i t.row c.next_row.new.row below row_long t.invariant.0 c.next_row.ensures,
      holds_more (row_sum a.key.now a.n a.count) row_sum_bound t.sums _ i t.invariant.1 (omega arith) sum.0 sum.1,
    )

-- ** The end

-- the largest of the sums make the final sum
sum_is : (key : List ℤ) (n count i : ℕ) (sums : List ℤ) (sum : ℤ) → count ≤ 64 → Holds (row_sum key n count) row_sum_bound sums i → i ≡ n
    → length sums ≡ n → SFits w32 sum → sum ≡ largest_sum (value_at sums) (length sums) count
    → (to_z w32 (of_z w32 sum) ≡ pos (nat_abs (final_sum key n count))) × (nat_abs (final_sum key n count) ≤ 64 * row_sum_bound)
sum_is key n count i sums sum few held done size fits e =
    let s = final_sum_lem key n count few sums (rw done at held) in
    (read_back fits ∙ (rw size at e) ∙ s.0 ∙ never_negative key n count, s.1)

made : (c : After-largest_sum-2)
    → (to_z w32 (of_z w32 c.largest_sum-2.result) ≡ pos (nat_abs (final_sum c.args.key.now c.args.n c.args.count)))
    × (nat_abs (final_sum c.args.key.now c.args.n c.args.count) ≤ 64 * row_sum_bound)
made c =
    let a = c.args in
    let t = c.loop-sum in
    let taken = taken_long a.n c.requires.0.most in
    let test : length (take a.n (replicate 1024 (pos 0))) ≤ t.sum-index = c.loop-sum-test.false in
    let end : t.sum-index ≤ length (take a.n (replicate 1024 (pos 0))) = t.auto.sum-index-end in
    sum_is a.key.now a.n a.count t.sum-index t.sums c.largest_sum-2.result c.requires.3 t.invariant.1 (omega arith) (t.auto.sums ∙ taken)
    (record { sfits = c.largest_sum-2.type_inv }) c.largest_sum-2.ensures

pub overflow_cast-result : goal.overflow_cast-result
overflow_cast-result c =
    let sum = made (goal.at.overflow_cast-result c).After-largest_sum-2 in
    rw sum.0 (tt, record { fits = omega (arith, sum.1) })

pub returns : goal.returns
returns c = rw (made (goal.at.returns c).After-largest_sum-2).0 (sym (never_negative c.args.key.now c.args.n c.args.count))
