-- `base_sample::Cdt::at_or_below` meets its contract. The loop's invariant: of the thresholds before i, x lacks those that are above the draw, and
-- their low words' entries are listed. Assumes nothing.
use mathlib.Core.Path.{◌≡◌, refl, sym, ap, ◌∙◌}
use native.Mathlib.Nat.{zero-add}
use native.Mathlib.Omega.{arith}
use lib.ListN.{get_or, set, length-set}
use Prim.Native.Nat.{◌+◌, ◌^◌, ◌<◌}
use Rattle.arithmetic.specs.Words.{value}
use Rattle.read_list.specs.Entries.{places_up}
use Rattle.read_list.proofs.Runs.{places_up_more}
use Rattle.base_sample.specs.BaseSample.{threshold, at_or_below, base_sample}
use Rattle.base_sample.proofs.Thresholds.{word_small}
use Rattle.base_sample.proofs.Cdt.at_or_below.Invariants.{held, counted}
use Rattle.base_sample.proofs.Cdt.at_or_below.Goals as goal

-- ** In the loop

pub loop-i-init : goal.loop-i-init
unfolding at_or_below places_up
loop-i-init c = record { small = omega arith; count = refl; same = refl; entries = refl }

pub less-x-requires : goal.less-x-requires
less-x-requires c =
    let table = c.args.self.words.now in
    let i = c.loop-i.i in
    let high : get_or c.args.high.now i 0 < 2 ^ 62 = rw (held table c.args.high.now i c.requires.0 (omega arith)) (word_small table i (omega arith) c.args.self.small) in
    let low : c.listed-low.result < 2 ^ 62 = rw (c.listed-low.ensures.value 0) (word_small table _ (omega arith) c.args.self.small) in
    (omega arith, (c.requires.1, omega (arith, high), low))

pub loop-i-preserved : goal.loop-i-preserved
loop-i-preserved c =
    let t = c.loop-i in
    let high_word_lem = held c.args.self.words.now c.args.high.now t.i c.requires.0 (omega arith) in
    record {
      small = omega (arith, t.invariant.small);
      count = counted c.args.self.words.now (value c.args.draw) t.x t.i _ _ _ t.invariant.count (omega arith) high_word_lem (c.listed-low.ensures.value 0) c.less-x.ensures;
      same = length-set t.list _ _ ∙ t.invariant.same;
      entries = places_up_more 3 10 t.i c.args.list.now 0 t.invariant.entries (ap (set t.list t.i) c.listed-low.ensures.entry_after) (sym (zero-add t.i)) refl;
    }

-- ** After it

pub returns : goal.returns
unfolding base_sample
returns c =
    let s = c.args in
    let t = c.loop-i in
    let all : t.i ≡ 10 = omega arith in (
      omega (arith, all, t.invariant.count, ap (at_or_below (threshold s.self.words.now) (value s.draw)) all),
      t.invariant.small,
      rw all at t.invariant.entries,
    )
