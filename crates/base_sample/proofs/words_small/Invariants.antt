use mathlib.Core.Path.{◌≡◌}
use mathlib.Core.Bool.{true}
use Prim.Native.Nat.{ℕ, ◌^◌}
use lib.Dec.{ltb}
use lib.ListN.{get_or}
use Rattle.checks.specs.Checks.{all_below}
use Rattle.base_sample.proofs.words_small.Given as goal

abbrev pub invariant-loop-word : goal.invariant-loop-word
invariant-loop-word l = all_below (λ (j : ℕ). ltb (get_or l.cdt j 0) (2 ^ 62)) l.word-index ≡ true
