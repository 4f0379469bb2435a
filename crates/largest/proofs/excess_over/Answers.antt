-- `largest::excess_over` meets its contract: before a turn the sum is that of the values so far. Assumes nothing.
use Rattle.std.proofs.Common.{arith, rules, ◌≡◌, ◌+◌, ℤ, pos, ◌-ℤ◌, ◌+ℤ◌, length, sym, ap}
use mir.Syntax.{w32}
use mir.Val.{SFits, to_z}
use Rattle.signed.proofs.Signs.{read_back, fits_of_abs}
use Rattle.largest.specs.Threshold.{value_at, sum_over, excess}
use Rattle.largest.proofs.Threshold.{sum_none}
use Rattle.largest.proofs.Excess.{over_small, excess_small, excess_more}
use Rattle.largest.proofs.excess_over.Goals as goal
use Rattle.largest.proofs.excess_over.Goals.{After-kept-sum}

-- ** What a turn makes

module _ (c : After-kept-sum) where
  abbrev value : ℤ
  value = value_at c.args.values.now c.loop-value.value-index

  abbrev before : ℤ
  before = to_z w32 c.loop-value.sum-bits

  kept_fits : SFits w32 c.kept-sum.result
  kept_fits = record { sfits = c.kept-sum.type_inv }

  made : before +ℤ c.kept-sum.result ≡ pos (sum_over (excess c.args.t) (value_at c.args.values.now) (c.loop-value.value-index + 1))
  made =
      let a = c.requires in
      let i = c.loop-value.value-index in
      let t = read_back c.ranges.t in
      let v : SFits w32 value = search rules in
      let over : SFits w32 (value -ℤ c.args.t) =
      fits_of_abs (omega (arith, over_small c.args.t (value_at c.args.values.now) (length c.args.values.now) a.1 a.0.small a.2 i)) in
      excess_more c.args.t (value_at c.args.values.now) (length c.args.values.now) a.1 a.0.small a.2 i before c.kept-sum.result
      (rw t at c.loop-value.invariant) (rw (t, read_back v, read_back over) at c.kept-sum.ensures)

  made_fits : SFits w32 (before +ℤ c.kept-sum.result)
  made_fits =
      let a = c.requires in
      let small = excess_small c.args.t (value_at c.args.values.now) (length c.args.values.now) a.1 a.0.small a.2
      (c.loop-value.value-index + 1) (omega arith) in
      rw made (fits_of_abs (omega arith))

-- ** What the code asks for

pub loop-value-init : goal.loop-value-init
loop-value-init c = ap pos (sym (sum_none _ _))

pub overflow_add-sum : goal.overflow_add-sum
overflow_add-sum c = rw (read_back (kept_fits c)) (made_fits c)

pub loop-value-preserved : goal.loop-value-preserved
loop-value-preserved c = rw (read_back c.ranges.t, read_back (kept_fits c), read_back (made_fits c)) (made c)
