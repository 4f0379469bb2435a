-- What the entries of a read list name in lent memory. Assumes nothing.
use Rattle.std.specs.Prelude.{◌≡◌, ℕ, get_or, ℤ, pos}
use mathlib.Core.List.{List, Memᴰ}
use Rattle.read_list.specs.Entries.{kind_of, place_of}

-- what is lent to a call and named by its list
pub record Lent : Type 0 where
  pub words : List ℕ
  pub cdt : List ℕ
  pub polynomial : List ℕ
  pub key : List ℤ

-- two calls are lent the same at the place that an entry names: of kind 2 in the words, of kind 3 in the CDT table, of kind 4 in the
-- polynomial table, of kind 8 in the key; the other kinds name nothing that is lent
pub record SameAt (a b : Lent) (e : ℕ) : Type 0 where
  pub words : kind_of e ≡ 2 → get_or a.words (place_of e) 0 ≡ get_or b.words (place_of e) 0
  pub cdt : kind_of e ≡ 3 → get_or a.cdt (place_of e) 0 ≡ get_or b.cdt (place_of e) 0
  pub polynomial : kind_of e ≡ 4 → get_or a.polynomial (place_of e) 0 ≡ get_or b.polynomial (place_of e) 0
  pub key : kind_of e ≡ 8 → get_or a.key (place_of e) (pos 0) ≡ get_or b.key (place_of e) (pos 0)

-- two calls are lent the same at every place on a list
abbrev pub Agree : (a b : Lent) (list : List ℕ) → Type 0
Agree a b list = (e : ℕ) → Memᴰ e list → SameAt a b e
