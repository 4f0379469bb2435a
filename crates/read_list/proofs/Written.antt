-- What is written one after the other into a list. Assumes nothing.
use mathlib.Core.Path.{◌≡◌, ap, ◌∙◌}
use mathlib.Core.List.{List, [], ◌∷◌, ◌++◌, append-nil}
use Prim.Native.Nat.{ℕ, suc, ◌+◌}
use native.Mathlib.Nat.{add-zero, zero-add}
use native.Mathlib.Omega.{arith}
use lib.ListN.{length, set}
use lib.Seq.{sets, sets-eq, drop-length}

-- what is written behind what was written, and both together
pub sets_sets : {A : Type 0} (list : List A) (at end : ℕ) (es fs : List A) → end ≡ at + length es
    → sets (sets list at es) end fs ≡ sets list at (es ++ fs)
sets_sets list at end [] fs h = ap (λ (i : ℕ). sets list i fs) (h ∙ add-zero at)
sets_sets list at end (e ∷ es) fs h = sets_sets (set list at e) (suc at) end es fs (omega (arith, h))

-- the same of lists that are known by equations
pub written_behind : {A : Type 0} (list : List A) {list₁ list₂ : List A} (at end : ℕ) (es fs : List A)
    → list₁ ≡ sets list at es → list₂ ≡ sets list₁ end fs → end ≡ at + length es
    → list₂ ≡ sets list at (es ++ fs)
written_behind list at end es fs e₁ e₂ h = e₂ ∙ rw e₁ (sets_sets list at end es fs h)

-- what is written over a whole list
pub sets_whole : {A : Type 0} (list es : List A) → length es ≡ length list → sets list 0 es ≡ es
sets_whole list es h = sets-eq es list 0 (omega (arith, h)) ∙ rw (zero-add, h, drop-length list) (append-nil es)
