-- A row moved on by one place, with minus its last value in front: the loop of `next_row`. Assumes nothing.
use mathlib.Core.Path.{◌≡◌, sym, ap, subst, ◌∙◌}
use mathlib.Core.List.{List}
use Prim.Native.Nat.{ℕ, ◌+◌, ◌≤◌, ◌<◌}
use native.Mathlib.Omega.{arith}
use native.Mathlib.Numerals.{add-one}
use native.Mathlib.Decide.{ℕ_discrete}
use lib.ListN.{length, get_or, set}
use lib.Seq.{get_or-set_same, get_or-set_other}
use lib.IntN.{ℤ, pos}
use Rattle.key_check.specs.Rows.{turned}

-- before turn j the first j values are moved on, and the next is carried
pub record Moving (row₀ row : List ℤ) (carried : ℤ) (j : ℕ) : Type 0 where
  pub next : carried ≡ get_or (turned row₀) j (pos 0)
  pub on : (t : ℕ) → t < j → get_or row t (pos 0) ≡ get_or (turned row₀) t (pos 0)
  pub rest : (t : ℕ) → j ≤ t → get_or row t (pos 0) ≡ get_or row₀ t (pos 0)

module _ (row₀ : List ℤ) where
  pub moving_more : (row : List ℤ) (carried entry : ℤ) (j : ℕ) → Moving row₀ row carried j → j < length row → entry ≡ get_or row j (pos 0)
      → Moving row₀ (set row j carried) entry (j + 1)
  moving_more row carried entry j m h e = record {
    next = e ∙ m.rest j (omega arith) ∙ ap (λ (t : ℕ). get_or (turned row₀) t (pos 0)) (sym (add-one j));
    on = λ t g. on t (omega arith) (ℕ_discrete t j);
    rest = λ t g. get_or-set_other row j t carried (pos 0) (λ q. omega (arith, q)) ∙ m.rest t (omega arith);
  }
    where
      on : (t : ℕ) → t ≤ j → Dec (t ≡ j) → get_or (set row j carried) t (pos 0) ≡ get_or (turned row₀) t (pos 0)
      on t g (yes q) =
          subst (λ (x : ℕ). get_or (set row j carried) x (pos 0) ≡ get_or (turned row₀) x (pos 0)) (sym q)
          (get_or-set_same row j carried (pos 0) h ∙ m.next)
      on t g (no q) = get_or-set_other row j t carried (pos 0) q ∙ m.on t (omega arith)
