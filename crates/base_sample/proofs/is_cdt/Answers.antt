-- `base_sample::is_cdt` meets its contract. Assumes nothing.
use Rattle.checks.proofs.JoinedTests.{holds, fails}
use Rattle.base_sample.specs.BaseSample.{is_cdt}
use Rattle.base_sample.proofs.is_cdt.Goals as goal

pub returns-then-not-words_small : goal.returns-then-not-words_small
unfolding is_cdt
returns-then-not-words_small c = rw (fails c.words_small.ensures c.if-not-words_small.true)

pub returns : goal.returns
unfolding is_cdt
returns c = rw (holds c.words_small.ensures c.if-not-words_small.false) c.never_falls.ensures
