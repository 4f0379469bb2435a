-- What two calls are lent where they agree on a read list, part by part and place by place. Assumes nothing.
use mathlib.Core.Path.{◌≡◌, refl, sym, ap}
use mathlib.Core.Logic.{⊎_elim}
use mathlib.Core.List.Memᴰ
use mathlib.Core.List.{List, ◌∷◌, ◌++◌, Memᴰ}
use Prim.Native.Nat.{ℕ, zero, suc, ◌+◌, ◌^◌, ◌≤◌, ◌<◌}
use native.Mathlib.Nat.{eq-or-lt_of_le}
use native.Mathlib.Omega.{arith}
use lib.IntN.{pos}
use lib.ListN.{get_or}
use Rattle.read_list.specs.Entries.{entry, places_up}
use Rattle.read_list.specs.Agreement.{Lent, SameAt, Agree}
use Rattle.read_list.proofs.Entries.{kind_of_entry, place_of_entry}

-- ** The entries of a run

places_up_has : (kind place count p : ℕ) → place ≤ p → p < place + count → Memᴰ (entry kind p) (places_up kind place count)
unfolding places_up
places_up_has kind place zero p l h = absurd (omega arith)
places_up_has kind place (suc count) p l h =
    ⊎_elim
    (λ e. Memᴰ.head (ap (entry kind) (sym e)))
    (λ g. Memᴰ.tail (places_up_has kind (suc place) count p g (omega arith)))
    (eq-or-lt_of_le l)

module _ {a b : Lent} where
  -- ** Part by part

  pub agree_first : (es fs : List ℕ) → Agree a b (es ++ fs) → Agree a b es
  agree_first es fs same e m = same e (Memᴰ.append_left fs m)

  pub agree_rest : (es fs : List ℕ) → Agree a b (es ++ fs) → Agree a b fs
  agree_rest es fs same e m = same e (Memᴰ.append_right es m)

  pub agree_head : {e : ℕ} {es : List ℕ} → Agree a b (e ∷ es) → SameAt a b e
  agree_head {e} same = same e (Memᴰ.head refl)

  pub agree_tail : {e : ℕ} {es : List ℕ} → Agree a b (e ∷ es) → Agree a b es
  agree_tail same f m = same f (Memᴰ.tail m)

  -- at each place of a run
  pub agree_places_up : (kind place count : ℕ) → Agree a b (places_up kind place count) → (p : ℕ) → place ≤ p → p < place + count
      → SameAt a b (entry kind p)
  agree_places_up kind place count same p l h = same (entry kind p) (places_up_has kind place count p l h)

  -- ** Place by place

  pub same_word : (p : ℕ) → p < 2 ^ 24 → SameAt a b (entry 2 p) → get_or a.words p 0 ≡ get_or b.words p 0
  same_word p h same = rw (place_of_entry 2 h) at (same.words (kind_of_entry 2 h))

  pub same_cdt_word : (p : ℕ) → p < 2 ^ 24 → SameAt a b (entry 3 p) → get_or a.cdt p 0 ≡ get_or b.cdt p 0
  same_cdt_word p h same = rw (place_of_entry 3 h) at (same.cdt (kind_of_entry 3 h))

  pub same_key_value : (p : ℕ) → p < 2 ^ 24 → SameAt a b (entry 8 p) → get_or a.key p (pos 0) ≡ get_or b.key p (pos 0)
  same_key_value p h same = rw (place_of_entry 8 h) at (same.key (kind_of_entry 8 h))
