-- Request S-7 in numbers: what is rounded, and what keeps its cut. Assumes nothing.
use Rattle.std.specs.Prelude.{◌≡◌, true, false, ◌*◌, ◌-◌, ◌^◌}
use Rattle.exponential.specs.Exponential.{squared, exp}
use Rattle.acceptance.specs.Acceptance.{cosh_passes}

pub record RoundingNumbers : Type 0 where
  -- ** A squaring
  -- a quarter of a unit goes down, 9 / 16 up
  pub quarter : squared (2 ^ 30) ≡ 0
  pub nine_sixteenths : squared (3 * 2 ^ 29) ≡ 1
  -- the two squares nearest to half a unit
  pub below_half : squared 1518500249 ≡ 0
  pub above_half : squared 1518500250 ≡ 1
  -- 1 stays 1, and what is below it goes on falling
  pub one : squared (2 ^ 62) ≡ 2 ^ 62
  pub below_one : squared (2 ^ 62 - 1) ≡ 2 ^ 62 - 2
  --
  -- ** e(N)
  -- with cuts they end in 357, 776, 334 and 329. Each of the six squarings, cut by itself, would change one of them, and so would a rounded
  -- evaluation
  pub exp_1 : exp 1 ≡ 4611636135668307368
  pub exp_513 : exp 513 ≡ 4586166892218597802
  pub exp_46225 : exp 46225 ≡ 2797128963144291369
  pub exp_92450 : exp 92450 ≡ 1696544475317221345
  -- where it is farthest above the exact fraction, and below
  pub exp_6120 : exp 6120 ≡ 4316287146958387912
  pub exp_1552 : exp 1552 ≡ 4534913765888215070
  --
  -- ** f
  -- it keeps its cut: rounded, it would fail the first of these words, the largest that passes
  pub cosh_below : cosh_passes (exp 12) 4611685979578517672 ≡ true
  pub cosh_above : cosh_passes (exp 12) 4611685979578517673 ≡ false
