-- `largest::count_from` meets its contract: before a turn the count is that of all values, less those so far that are below t. Assumes
-- nothing.
use Rattle.std.proofs.Common.{arith, rules, ◌≡◌, ◌+◌, ℤ, get_or, pos}
use Rattle.std.proofs.lemmas.Int.{ints}
use lib.Signed.{lt_z}
use mir.Syntax.{w32}
use mir.Val.{SFits, bool_byte}
use Rattle.signed.proofs.Signs.{read_back}
use Rattle.largest.specs.Threshold.{value_at, reaches}
use Rattle.largest.proofs.Threshold.{sum_none, sum_more}
use Rattle.largest.proofs.count_from.Goals as goal

-- a value is below t, or reaches it
below_or_reaching : (t x : ℤ) → bool_byte (lt_z x t) + reaches t x ≡ 1
below_or_reaching t x = grind (arith, ints)

pub loop-value-init : goal.loop-value-init
loop-value-init c = omega (arith, sum_none)

pub loop-value-preserved : goal.loop-value-preserved
loop-value-preserved c =
    let values = c.args.values.now in
    let i = c.loop-value.value-index in
    let fits : SFits w32 (get_or values i (pos 0)) = search rules in
    let more = sum_more (reaches c.args.t) (value_at values) i in
    let one = below_or_reaching c.args.t (get_or values i (pos 0)) in
    rw (read_back c.ranges.t, read_back fits) (omega (arith, rw (read_back c.ranges.t) at c.loop-value.invariant))
