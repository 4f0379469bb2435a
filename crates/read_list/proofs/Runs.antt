-- Runs of entries of one kind. Assumes nothing.
use mathlib.Core.Path.{◌≡◌, refl, sym, ap, ◌∙◌}
use mathlib.Core.List.{List, [], ◌∷◌, ◌++◌}
use Prim.Native.Nat.{ℕ, zero, suc, ◌+◌, ◌-◌, ◌≤◌, ◌<◌}
use native.Mathlib.Nat.{not-suc-le-zero, le_of_suc-le-suc, add-zero, add-suc, suc-add}
use native.Mathlib.Numerals.{add-one}
use native.Mathlib.Omega.{arith}
use lib.ListN.{length, get_or, set}
use lib.Seq.{sets}
use Rattle.read_list.specs.Entries.{entry, places_up, places_down}
use Rattle.read_list.proofs.Written.{written_behind}

-- ** The lowest place first

pub length_places_up : (kind place count : ℕ) → length (places_up kind place count) ≡ count
unfolding places_up
length_places_up kind place zero = refl
length_places_up kind place (suc count) = ap suc (length_places_up kind (suc place) count)

places_up_snoc : (kind place count : ℕ) → places_up kind place count ++ (entry kind (place + count) ∷ []) ≡ places_up kind place (suc count)
unfolding places_up
places_up_snoc kind place zero = rw (add-zero place)
places_up_snoc kind place (suc count) =
    ap (λ (es : List ℕ). entry kind place ∷ es)
    (rw (add-suc place count, ← suc-add place count) (places_up_snoc kind (suc place) count))

-- one more is written
pub places_up_more : (kind place count : ℕ) (list : List ℕ) (at : ℕ) {list₁ list₂ : List ℕ} {i p : ℕ}
    → list₁ ≡ sets list at (places_up kind place count) → list₂ ≡ set list₁ i (entry kind p)
    → i ≡ at + count → p ≡ place + count → list₂ ≡ sets list at (places_up kind place (count + 1))
places_up_more kind place count list at {i = i} {p = p} e₁ e₂ ei ep =
    rw (add-one count, ← places_up_snoc kind place count, ← ep)
    (written_behind list at i (places_up kind place count) (entry kind p ∷ []) e₁ e₂ (omega (arith, ei, length_places_up kind place count)))

pub places_up_at : (kind place count i : ℕ) → i < count → get_or (places_up kind place count) i 0 ≡ entry kind (place + i)
unfolding places_up
places_up_at kind place zero i h = absurd (not-suc-le-zero h)
places_up_at kind place (suc count) zero h = ap (entry kind) (sym (add-zero place))
places_up_at kind place (suc count) (suc i) h = places_up_at kind (suc place) count i (le_of_suc-le-suc h) ∙ ap (entry kind) (omega arith)

-- ** The highest place first

pub places_down_at : (kind count i : ℕ) → i < count → get_or (places_down kind count) i 0 ≡ entry kind (count - suc i)
unfolding places_down
places_down_at kind zero i h = absurd (not-suc-le-zero h)
places_down_at kind (suc count) zero h = ap (entry kind) (omega arith)
places_down_at kind (suc count) (suc i) h = places_down_at kind count i (le_of_suc-le-suc h) ∙ ap (entry kind) (omega arith)

pub places_down_step : (kind : ℕ) (l : List ℕ) (i j : ℕ) → 0 < j
    → sets (set l i (entry kind (j - 1))) (suc i) (places_down kind (j - 1)) ≡ sets l i (places_down kind j)
unfolding places_down
places_down_step kind l i zero h = absurd (not-suc-le-zero h)
places_down_step kind l i (suc j) h = let e : suc j - 1 ≡ j = omega arith in rw e

pub places_down_end : (kind : ℕ) (l : List ℕ) (i j : ℕ) → j ≤ 0 → l ≡ sets l i (places_down kind j)
unfolding places_down
places_down_end kind l i zero h = refl
places_down_end kind l i (suc j) h = absurd (not-suc-le-zero h)
