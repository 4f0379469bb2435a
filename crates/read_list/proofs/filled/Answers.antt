-- `read_list::filled` meets its contract: the test is that of `filled_part`, and a part that starts at 0 starts where the list does.
-- Assumes nothing.
use borrow.Author.Tests.{le-leb, lt-leb}
use Rattle.read_list.specs.Entries.{filled_part}
use Rattle.read_list.proofs.filled.Goals as goal

pub returns-then-list-count-clause-part : goal.returns-then-list-count-clause-part
unfolding filled_part
returns-then-list-count-clause-part c = simp (lt-leb _ _ c.if-list-count.true)

pub returns-clause-part : goal.returns-clause-part
unfolding filled_part
returns-clause-part c = simp (le-leb _ _ c.if-list-count.false)
