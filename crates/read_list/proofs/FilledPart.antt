-- The filled part of a list. Assumes nothing.
use borrow.Author.Tests.{le-leb, lt-leb}
use lib.ListN.{length}
use Rattle.read_list.specs.Entries.{filled_part, FilledUpTo}

pub filled_up_to : FilledUpTo
unfolding filled_part
filled_up_to list count = record {
  up_to = λ h. rw (le-leb count (length list) h);
  over = λ h. rw (lt-leb count (length list) h);
}
