-- `base_sample::words_small` meets its contract: the words so far are small. Assumes nothing.
use native.Mathlib.Omega.{arith}
use mathlib.Core.Path.{sym}
use borrow.Author.Tests.{le-ltb, lt-ltb}
use Rattle.checks.proofs.AllBelow.{all_none, all_more, all_broken, all_done}
use Rattle.base_sample.specs.BaseSample.{words_small}
use Rattle.base_sample.proofs.words_small.Goals as goal

pub loop-word-init : goal.loop-word-init
loop-word-init c = all_none _

pub returns-then-word-ge-TWO_62 : goal.returns-then-word-ge-TWO_62
unfolding words_small
returns-then-word-ge-TWO_62 c = sym (all_broken _ _ 20 (omega (arith, c.requires)) (le-ltb _ _ c.if-word-ge-TWO_62.true))

pub loop-word-preserved : goal.loop-word-preserved
loop-word-preserved c = all_more _ _ c.loop-word.invariant (lt-ltb _ _ c.if-word-ge-TWO_62.false)

pub returns : goal.returns
unfolding words_small
returns c = all_done _ _ 20 (omega (arith, c.requires)) (omega (arith, c.requires)) c.loop-word.invariant
