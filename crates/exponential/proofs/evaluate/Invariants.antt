use mathlib.Core.Path.{◌≡◌}
use mathlib.Core.List.{List}
use Prim.Native.Nat.{ℕ, ◌-◌}
use lib.ListN.{length}
use lib.Seq.{sets}
use Rattle.read_list.specs.Entries.{places_down}
use Rattle.exponential.proofs.Steps.{Evaluating}
use Rattle.exponential.proofs.evaluate.Given as goal

-- the evaluation is under way, and the entries left, from the list as it is, give the list
pub record Turn (table : List ℕ) (v : ℕ) (list₀ list : List ℕ) (a j : ℕ) : Type 0 where
  pub evaluating : Evaluating table v a j
  pub same : length list ≡ length list₀
  pub entries : sets list (21 - j) (places_down 4 j) ≡ sets list₀ 0 (places_down 4 21)

abbrev pub invariant-loop-j : goal.invariant-loop-j
invariant-loop-j l = Turn l.table l.v l.initial.list l.list l.a l.j
