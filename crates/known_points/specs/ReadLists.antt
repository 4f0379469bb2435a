-- Document 01's read list: the filled part of a list, and the lists of a draw and of a response at degree 4, written out. Assumes nothing.
use Rattle.std.specs.Prelude.{◌≡◌, true, false, List, [], ◌∷◌, ◌++◌, ℕ, take, drop}
use Rattle.read_list.specs.Entries.{entry, filled_part}
use Rattle.sampler.specs.Draw.{draw_entries}
use Rattle.response.specs.Response.{respond_entries}

-- the reads of a scan: all words of the CDT table
abbrev pub scan_reads : List ℕ
scan_reads =
    entry 3 0 ∷ entry 3 1 ∷ entry 3 2 ∷ entry 3 3 ∷ entry 3 4 ∷ entry 3 5 ∷ entry 3 6 ∷ entry 3 7 ∷ entry 3 8 ∷ entry 3 9
    ∷ entry 3 10 ∷ entry 3 11 ∷ entry 3 12 ∷ entry 3 13 ∷ entry 3 14 ∷ entry 3 15 ∷ entry 3 16 ∷ entry 3 17
    ∷ entry 3 18 ∷ entry 3 19 ∷ []

-- the reads of an exponential: all words of the polynomial table, from the last
abbrev pub exponential_reads : List ℕ
exponential_reads =
    entry 4 20 ∷ entry 4 19 ∷ entry 4 18 ∷ entry 4 17 ∷ entry 4 16 ∷ entry 4 15 ∷ entry 4 14 ∷ entry 4 13
    ∷ entry 4 12 ∷ entry 4 11 ∷ entry 4 10 ∷ entry 4 9 ∷ entry 4 8 ∷ entry 4 7 ∷ entry 4 6 ∷ entry 4 5
    ∷ entry 4 4 ∷ entry 4 3 ∷ entry 4 2 ∷ entry 4 1 ∷ entry 4 0 ∷ []

pub record ReadLists : Type 0 where
  -- the filled part, up to the count; over the list's length it is empty
  pub filled_part_lem : filled_part (7 ∷ 8 ∷ 9 ∷ []) 2 ≡ 7 ∷ 8 ∷ []
  pub filled_whole : filled_part (7 ∷ 8 ∷ 9 ∷ []) 3 ≡ 7 ∷ 8 ∷ 9 ∷ []
  pub filled_over : filled_part (7 ∷ 8 ∷ 9 ∷ []) 4 ≡ []
  -- an entry is kind * 2 ^ 24 + place
  pub entry_is : entry 1 4 ≡ 16777220
  --
  -- ** Draws
  -- of one attempt, which is accepted
  pub draw_list : draw_entries 4 (true ∷ [])
      ≡ entry 1 4 ∷ entry 2 0 ∷ entry 2 1 ∷ entry 2 2 ∷ entry 2 3
      ∷ scan_reads ++ exponential_reads ++ entry 5 0 ∷ entry 6 1 ∷ []
  -- the words of a second attempt, and the end of its list
  pub second_words : take 5 (drop 47 (draw_entries 4 (true ∷ false ∷ [])))
      ≡ entry 2 4 ∷ entry 2 5 ∷ entry 2 6 ∷ entry 2 7 ∷ entry 3 0 ∷ []
  pub second_end : drop 92 (draw_entries 4 (true ∷ false ∷ [])) ≡ entry 5 1 ∷ entry 6 1 ∷ []
  --
  -- ** Responses
  -- an accepted one to the challenge 1
  pub respond_list : respond_entries 4 true (1 ∷ [])
      ≡ entry 7 4 ∷ entry 8 3 ∷ entry 8 0 ∷ entry 8 1 ∷ entry 8 2 ∷ entry 8 7 ∷ entry 8 4 ∷ entry 8 5 ∷ entry 8 6
      ∷ entry 2 0 ∷ entry 2 1 ∷ entry 2 2 ∷ exponential_reads ++ exponential_reads ++ entry 9 1 ∷ []
  -- the reads of the key for the challenge 0, 1: output by output, and in each output position by position
  pub respond_list_of_two : take 17 (respond_entries 4 true (0 ∷ 1 ∷ []))
      ≡ entry 7 4 ∷ entry 8 0 ∷ entry 8 3 ∷ entry 8 1 ∷ entry 8 0 ∷ entry 8 2 ∷ entry 8 1 ∷ entry 8 3 ∷ entry 8 2
      ∷ entry 8 4 ∷ entry 8 7 ∷ entry 8 5 ∷ entry 8 4 ∷ entry 8 6 ∷ entry 8 5 ∷ entry 8 7 ∷ entry 8 6 ∷ []
  -- a rejected one ends otherwise
  pub rejected_end : drop 54 (respond_entries 4 false (1 ∷ [])) ≡ entry 9 0 ∷ []
