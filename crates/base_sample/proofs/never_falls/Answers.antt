-- `base_sample::never_falls` meets its contract: the thresholds before i are at or below their next ones. Assumes nothing.
use native.Mathlib.Omega.{arith}
use mathlib.Core.Path.{◌≡◌, sym, ◌∙◌}
use mathlib.Core.List.{List}
use Prim.Native.Nat.{ℕ, suc, ◌+◌, ◌*◌, ◌^◌, ◌<◌}
use native.Mathlib.Numerals.{add-one}
use lib.Dec.{ltb}
use lib.ListN.{get_or}
use Rattle.arithmetic.specs.Words.{bit}
use Rattle.checks.proofs.AllBelow.{all_none, all_more, all_broken, all_done}
use Rattle.base_sample.specs.BaseSample.{threshold, never_falls}
use Rattle.base_sample.proofs.Thresholds.{word_small, is_below, not_below}
use Rattle.base_sample.proofs.never_falls.Invariants.{rises}
use Rattle.base_sample.proofs.never_falls.Goals as goal
use Rattle.base_sample.proofs.never_falls.Goals.{After-less}

-- ** In the loop

pub loop-i-init : goal.loop-i-init
loop-i-init c = all_none _

pub less-requires : goal.less-requires
less-requires c =
    let table = c.args.cdt.now in
    let i = c.loop-i.i in
    let next : c.threshold_at-next.result.low < 2 ^ 62 = rw c.threshold_at-next.ensures.1 (word_small table (10 + (i + 1)) (omega arith) c.requires.1) in
    let high : c.threshold_at-here.result.high < 2 ^ 62 = rw c.threshold_at-here.ensures.0 (word_small table i (omega arith) c.requires.1) in
    let low : c.threshold_at-here.result.low < 2 ^ 62 = rw c.threshold_at-here.ensures.1 (word_small table (10 + i) (omega arith) c.requires.1) in
    (omega arith, (next, omega (arith, high), low))

-- the comparison of threshold i with the next, as the definition has it
falls : (cdt : List ℕ) (i h l h' l' r : ℕ) → h ≡ get_or cdt i 0 → l ≡ get_or cdt (10 + i) 0 → h' ≡ get_or cdt (i + 1) 0
    → l' ≡ get_or cdt (10 + (i + 1)) 0
    → r ≡ bit (ltb (h' * 2 ^ 62 + l') (h * 2 ^ 62 + l)) → r ≡ bit (ltb (threshold cdt (suc i)) (threshold cdt i))
falls cdt i h l h' l' r e₁ e₂ e₃ e₄ e = e ∙ rw (e₁, e₂, e₃, e₄, add-one i)

module _ (c : After-less) where
  abbrev here : ℕ
  here = c.loop-i.i

  abbrev table : List ℕ
  table = c.args.cdt.now

  compared : c.less.result ≡ bit (ltb (threshold table (suc here)) (threshold table here))
  compared =
      let this = c.threshold_at-here.ensures in
      let next = c.threshold_at-next.ensures in
      falls table here _ _ _ _ _ this.0 this.1 next.0 next.1 c.less.ensures

pub returns-then-less-eq1 : goal.returns-then-less-eq1
unfolding never_falls
returns-then-less-eq1 c =
    let place = (goal.at.returns-then-less-eq1 c).After-less in
    sym (all_broken (rises (table place)) (here place) 9 c.loop-i-test.true (is_below (threshold (table place) (here place)) (threshold (table place) (suc (here place))) (sym (compared place) ∙ c.if-less-eq1.true)))

pub loop-i-preserved : goal.loop-i-preserved
loop-i-preserved c =
    let place = (goal.at.loop-i-preserved c).After-less in
    all_more (rises (table place)) (here place) c.loop-i.invariant (not_below (threshold (table place) (here place)) (threshold (table place) (suc (here place))) (λ z. c.if-less-eq1.false (compared place ∙ z)))

pub returns : goal.returns
unfolding never_falls
returns c = all_done _ _ 9 (omega arith) c.loop-i-test.false c.loop-i.invariant
