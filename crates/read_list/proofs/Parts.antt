-- A list of entries that is two lists in a row: where the first one ends. Assumes nothing.
use mathlib.Core.Path.{◌≡◌, refl, sym, ap, ap₂, ◌∙◌}
use mathlib.Core.List.{List, [], ◌∷◌, ◌++◌, head-eq_of_cons-eq, tail-eq_of_cons-eq}
use Prim.Native.Nat.{ℕ, ◌*◌, ◌^◌, ◌≤◌, ◌<◌}
use native.Mathlib.Omega.{arith}
use lib.ListN.{length, take, drop}
use lib.Seq.{take-append_seam, drop-append_seam, take_at, drop_at}

-- ** It ends after so many entries

pub parts_of_one_length : (xs ys us vs : List ℕ) → length xs ≡ length ys → xs ++ us ≡ ys ++ vs → (xs ≡ ys) × (us ≡ vs)
parts_of_one_length xs ys us vs same h = (
  sym (take-append_seam xs us) ∙ ap (take (length xs)) h ∙ take_at ys vs (length xs) (sym same),
  sym (drop-append_seam xs us) ∙ ap (drop (length xs)) h ∙ drop_at ys vs (length xs) (sym same),
)

-- ** It ends where an entry of a lower kind stands

-- every entry is of this kind or a higher one
abbrev pub FromKind : (kind : ℕ) → List ℕ → Type 0
FromKind kind [] = Unit {0}
FromKind kind (e ∷ es) = (kind * 2 ^ 24 ≤ e) × FromKind kind es

pub from_kind_append : (kind : ℕ) (es fs : List ℕ) → FromKind kind es → FromKind kind fs → FromKind kind (es ++ fs)
from_kind_append kind [] fs he hf = hf
from_kind_append kind (e ∷ es) fs he hf = (he.0, from_kind_append kind es fs he.1 hf)

pub parts_by_kind : (kind : ℕ) (xs ys : List ℕ) (e f : ℕ) (us vs : List ℕ) → e < kind * 2 ^ 24 → f < kind * 2 ^ 24
    → FromKind kind xs → FromKind kind ys
    → xs ++ (e ∷ us) ≡ ys ++ (f ∷ vs) → (xs ≡ ys) × (e ∷ us ≡ f ∷ vs)
parts_by_kind kind [] [] e f us vs he hf hx hy h = (refl, h)
parts_by_kind kind [] (y ∷ ys) e f us vs he hf hx hy h = absurd (let k = head-eq_of_cons-eq h in let g = hy.0 in omega arith)
parts_by_kind kind (x ∷ xs) [] e f us vs he hf hx hy h = absurd (let k = head-eq_of_cons-eq h in let g = hx.0 in omega arith)
parts_by_kind kind (x ∷ xs) (y ∷ ys) e f us vs he hf hx hy h =
    let k = parts_by_kind kind xs ys e f us vs he hf hx.1 hy.1 (tail-eq_of_cons-eq h) in
    (ap₂ ◌∷◌ (head-eq_of_cons-eq h) k.0, k.1)
