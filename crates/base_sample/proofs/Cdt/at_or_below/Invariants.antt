use mathlib.Core.Path.{◌≡◌, ap, ◌∙◌}
use mathlib.Core.List.{List}
use Prim.Native.Nat.{ℕ, ◌≤◌, ◌<◌, ◌+◌, ◌-◌, ◌*◌, ◌^◌}
use native.Mathlib.Omega.{arith}
use lib.Dec.{ltb}
use lib.ListN.{length, get_or, take}
use lib.Seq.{sets, get_or-take}
use Rattle.arithmetic.specs.Words.{value, bit}
use Rattle.read_list.specs.Entries.{places_up}
use Rattle.base_sample.specs.BaseSample.{threshold, at_or_below}
use Rattle.base_sample.proofs.Thresholds.{one_of_both, at_or_below_next}
use Rattle.base_sample.proofs.Cdt.at_or_below.Given as goal

pub record Counted (cdt : List ℕ) (d : ℕ) (list₀ : List ℕ) (list : List ℕ) (x i : ℕ) : Type 0 where
  pub small : x ≤ 10
  pub count : x + i ≡ 10 + at_or_below (threshold cdt) d i
  pub same : length list ≡ length list₀
  pub entries : list ≡ sets list₀ 0 (places_up 3 10 i)

-- a high word that is held is the table's
pub held : (cdt high : List ℕ) (i : ℕ) → high ≡ take 10 cdt → i < 10 → get_or high i 0 ≡ get_or cdt i 0
held cdt high i e h = ap (λ (l : List ℕ). get_or l i 0) e ∙ get_or-take 10 cdt i 0 h

-- one threshold more
pub counted : (cdt : List ℕ) (d x i h l r : ℕ) → x + i ≡ 10 + at_or_below (threshold cdt) d i → i < 10 → h ≡ get_or cdt i 0 → l ≡ get_or cdt (10 + i) 0
    → r ≡ bit (ltb d (h * 2 ^ 62 + l)) → x - r + (i + 1) ≡ 10 + at_or_below (threshold cdt) d (i + 1)
counted cdt d x i h l r ex here eh el er =
    let below : r ≡ bit (ltb d (threshold cdt i)) = er ∙ rw (eh, el) in
    omega (arith, ex, here, below, at_or_below_next (threshold cdt) d i, one_of_both (threshold cdt i) d)

abbrev pub invariant-loop-i : goal.invariant-loop-i
invariant-loop-i l = Counted l.self.words.now (value l.draw) l.initial.list l.list l.x l.i
