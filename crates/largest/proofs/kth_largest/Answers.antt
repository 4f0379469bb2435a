-- `largest::kth_largest` meets its contract: before each turn the k-th largest is in t .. t + 2 ^ bit - 1. Assumes nothing.
use mathlib.Core.Path.{◌≡◌}
use mathlib.Core.Bool.{cond}
use lib.Dec.{leb}
use lib.ListN.{length}
use Prim.Native.Nat.{ℕ, ◌-◌, ◌^◌, ◌<◌}
use native.Mathlib.Omega.{arith}
use lib.IntN.{ℤ, pos, ◌+ℤ◌}
use mir.Syntax.{w32}
use mir.Val.{SFits, to_z, of_z}
use mir.ValLaws.{to_z_pos}
use Rattle.signed.proofs.Signs.{abs_add, read_back, fits_of_abs}
use Rattle.largest.specs.Threshold.{value_at, sum_over, reaches}
use Rattle.largest.proofs.Bracket.{Bracket, halves, bracket_start, bracket_turn}
use Rattle.largest.proofs.kth_largest.Goals as goal

-- where a bracket begins fits
start_fits : {f : ℕ → ℤ} {n k : ℕ} {t : ℤ} {bits : ℕ} → Bracket f n k t bits → SFits w32 t
start_fits b = let s = b.small in fits_of_abs (omega arith)

-- one turn, over plain variables: the bracket that it leaves
left : {f : ℕ → ℤ} {n k : ℕ} {t : ℤ} {bits many : ℕ} {kept : ℤ} (half : ℕ) → Bracket f n k t bits → 0 < bits → SFits w32 kept
    → half ≡ 2 ^ (bits - 1)
    → many ≡ sum_over (reaches (to_z w32 (of_z w32 (t +ℤ to_z w32 half)))) f n
    → kept ≡ cond (leb k many) (to_z w32 half) (pos 0)
    → Bracket f n k (t +ℤ to_z w32 (of_z w32 kept)) (bits - 1)
left {t = t} {bits = bits} half b h fits e em ek =
    let twice = halves bits h in
    let s = b.small in
    let half_read : to_z w32 half ≡ pos half = to_z_pos w32 half (omega arith) in
    let tried : SFits w32 (t +ℤ pos half) = fits_of_abs (omega (arith, abs_add t (pos half))) in
    rw (read_back fits, ek, em, half_read, read_back tried) (bracket_turn _ _ _ t bits half b h e)

pub loop-bit-init : goal.loop-bit-init
loop-bit-init c =
    let p = c.requires in bracket_start (value_at c.args.values.now) (length c.args.values.now) c.args.k p.0.small p.1 p.2

pub loop-bit-preserved : goal.loop-bit-preserved
loop-bit-preserved c =
    let s = c.loop-bit.invariant.small in
    let twice = halves c.loop-bit.bit c.loop-bit-test.true in
    let b = left _ c.loop-bit.invariant c.loop-bit-test.true (record { sfits = c.kept-t.type_inv }) (omega arith)
    c.count_from-many.ensures c.kept-t.ensures in
    rw (read_back (start_fits b)) b
