use Rattle.std.proofs.Common.{◌≡◌, length, take, drop}
use Rattle.std.proofs.lemmas.List.Edits.{sets}
use Rattle.read_list.specs.Entries.{places_up}
use Rattle.read_list.proofs.listed_words.Given as goal

abbrev pub invariant-loop-i : goal.invariant-loop-i
invariant-loop-i g l =
    record {
      whole : length l.words ≡ g.row.N;
      words : take l.i l.words ≡ take l.i (drop l.place l.lent);
      same : length l.list ≡ length l.initial.list;
      entries : l.list ≡ sets l.initial.list 0 (places_up l.kind l.place l.i);
    }
