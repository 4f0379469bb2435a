-- What is written from the start of a part of a list on. Assumes nothing.
use mathlib.Core.Path.{◌≡◌, sym, ap, ap₂, ◌∙◌}
use mathlib.Core.List.{List, [], ◌∷◌, ◌++◌}
use Prim.Native.Nat.{ℕ, suc, ◌+◌, ◌-◌, ◌≤◌, ◌<◌}
use native.Mathlib.Nat.{add-zero, add-suc}
use native.Mathlib.Omega.{arith}
use borrow.Rule.Slice.PartMut.{put_mid}
use lib.ListN.{length, take, drop, set}
use lib.Seq.{sets}
use Rattle.std.proofs.Math.Seq.{take-set-lt}
use Rattle.std.proofs.lemmas.List.{length-take, length-drop, take-append-drop, take-set-le, drop-set-lt, drop-set-add}

module _ {A : Type 0} (at count : ℕ) where
  -- a part that is put back as it was
  untouched : (list : List A) → put_mid at count list (take count (drop at list)) ≡ list
  untouched list = ap (λ (l : List A). take at list ++ l) (take-append-drop count (drop at list)) ∙ take-append-drop at list

  module _ (list : List A) (i : ℕ) (e : A) (h : i < count) where
    one_in_part : take count (drop at (set list (at + i) e)) ≡ set (take count (drop at list)) i e
    one_in_part = ap (take count) (drop-set-add at list i e) ∙ take-set-lt count (drop at list) i e h

    around : (ys : List A) → put_mid at count (set list (at + i) e) ys ≡ put_mid at count list ys
    around ys =
        let behind : drop count (drop at (set list (at + i) e)) ≡ drop count (drop at list) =
        ap (drop count) (drop-set-add at list i e) ∙ drop-set-lt count (drop at list) i e h in
        ap₂ (λ (before after : List A). before ++ (ys ++ after)) (take-set-le at list (at + i) e (omega arith)) behind

  from : (list : List A) (i : ℕ) (es : List A) → i + length es ≤ count
      → put_mid at count list (sets (take count (drop at list)) i es) ≡ sets list (at + i) es
  from list i [] h = untouched list
  from list i (e ∷ es) h =
      let more : i < count = omega arith in
      ap (λ (l : List A). put_mid at count list (sets l (suc i) es)) (sym (one_in_part list i e more))
      ∙ sym (around list i e more _)
      ∙ from (set list (at + i) e) (suc i) es (omega arith)
      ∙ ap (λ (k : ℕ). sets (set list (at + i) e) k es) (add-suc at i)

-- what is behind a place
pub length_behind : {A : Type 0} (list : List A) (at : ℕ) → length (take (length list - at) (drop at list)) ≡ length list - at
length_behind {A} list at = omega (arith, length-take (length list - at) (drop at list), length-drop at list)

-- it is written into the list from the part's place on
pub written_in_part : {A : Type 0} (at count : ℕ) (list es : List A) {part₁ : List A}
    → part₁ ≡ sets (take count (drop at list)) 0 es → length es ≤ count → put_mid at count list part₁ ≡ sets list at es
written_in_part at count list es e h =
    ap (put_mid at count list) e ∙ from at count list 0 es (omega (arith, h)) ∙ ap (λ (k : ℕ). sets list k es) (add-zero at)
