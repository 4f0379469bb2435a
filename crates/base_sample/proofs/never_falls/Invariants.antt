use mathlib.Core.Path.{◌≡◌}
use mathlib.Core.Bool.{Bool, true}
use mathlib.Core.List.{List}
use Prim.Native.Nat.{ℕ, suc}
use lib.Dec.{leb}
use Rattle.checks.specs.Checks.{all_below}
use Rattle.base_sample.specs.BaseSample.{threshold}
use Rattle.base_sample.proofs.never_falls.Given as goal

abbrev pub rises : (cdt : List ℕ) (i : ℕ) → Bool
rises cdt i = leb (threshold cdt i) (threshold cdt (suc i))

abbrev pub invariant-loop-i : goal.invariant-loop-i
invariant-loop-i l = all_below (rises l.cdt) l.i ≡ true
