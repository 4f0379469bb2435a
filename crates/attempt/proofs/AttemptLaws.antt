-- An attempt, from its words as they are read: its bit, its sample and its entries. Assumes nothing.
use mathlib.Core.Path.{◌≡◌, refl, ap, ◌∙◌}
use mathlib.Core.Bool.{Bool, not, ◌&&◌}
use mathlib.Core.List.{List, [], ◌∷◌, ◌++◌}
use Prim.Native.Nat.{ℕ, ◌+◌, ◌*◌, ◌/◌, ◌%◌, ◌^◌, ◌-◌, ◌≤◌}
use native.Mathlib.Omega.{arith}
use lib.Dec.{ltb, eqb}
use borrow.Rule.Slice.PartMut.{put_mid}
use lib.ListN.{length, set, get_or, take, drop}
use lib.Seq.{sets, length-sets}
use Rattle.read_list.specs.Entries.{entry, places_up, places_down}
use Rattle.read_list.proofs.InPart.{written_in_part}
use Rattle.read_list.proofs.Written.{written_behind}
use Rattle.base_sample.specs.BaseSample.{base_sample}
use Rattle.attempt.specs.Attempt.{size, exponent, accepts, sample, draw_at, bit_at, sample_at, attempt_entries}

-- ** The bit and the sample

module _ (cdt words : List ℕ) (t high low third fourth x : ℕ)
    (eh : high ≡ get_or words (4 * t) 0 % 2 ^ 62) (el : low ≡ get_or words (4 * t + 1) 0 % 2 ^ 62) (e₃ : third ≡ get_or words (4 * t + 2) 0) (e₄ : fourth ≡ get_or words (4 * t + 3) 0)
    (ex : x ≡ base_sample cdt (high * 2 ^ 62 + low)) where
  base_at : x ≡ base_sample cdt (draw_at words t)
  base_at = ex ∙ rw (eh, el)

  pub bit_at_lem : (e : ℕ → ℕ) (n value : ℕ) (r : Bool) → n ≡ exponent x (third % 2 ^ 8) → value ≡ e n
      → r ≡ (ltb (fourth % 2 ^ 62) value && not (eqb (size x (third % 2 ^ 8)) 0 && eqb (third / 2 ^ 8 % 2) 1)) → r ≡ bit_at e cdt words t
  unfolding bit_at accepts
  bit_at_lem e n value r en ev er = er ∙ rw (ev, en, base_at, e₃, e₄)

  pub sample_at_lem : sample x (third % 2 ^ 8) (eqb (third / 2 ^ 8 % 2) 1) ≡ sample_at cdt words t
  unfolding sample_at
  sample_at_lem = rw (base_at, e₃)

-- ** The entries

pub length_attempt : (t before : ℕ) → length (attempt_entries t before) ≡ 46
unfolding attempt_entries places_up places_down
length_attempt t before = refl

-- they are written from the start of a list on: the words first, the others in the parts behind them
pub attempt_written : (list l₁ part₂ part₃ : List ℕ) (last t k : ℕ) → 46 ≤ length list → l₁ ≡ sets list 0 (places_up 2 (4 * t) 4)
    → part₂ ≡ sets (take (length l₁ - 4) (drop 4 l₁)) 0 (places_up 3 0 20)
    → let l₂ = put_mid 4 (length l₁ - 4) l₁ part₂ in
    part₃ ≡ sets (take (length l₂ - 24) (drop 24 l₂)) 0 (places_down 4 21) → last ≡ entry 5 k
    → set (put_mid 24 (length l₂ - 24) l₂ part₃) 45 last ≡ sets list 0 (attempt_entries t k)
unfolding attempt_entries places_up places_down
attempt_written list l₁ part₂ part₃ last t k h e₁ e₂ e₃ e₄ =
    let l₂ = put_mid 4 (length l₁ - 4) l₁ part₂ in
    let same₁ : length l₁ ≡ length list = ap length e₁ ∙ length-sets list 0 (places_up 2 (4 * t) 4) in
    let w₂ : l₂ ≡ sets l₁ 4 (places_up 3 0 20) = written_in_part 4 (length l₁ - 4) l₁ (places_up 3 0 20) e₂ (omega arith) in
    let same₂ : length l₂ ≡ length l₁ = ap length w₂ ∙ length-sets l₁ 4 (places_up 3 0 20) in
    let w₃ : put_mid 24 (length l₂ - 24) l₂ part₃ ≡ sets l₂ 24 (places_down 4 21) = written_in_part 24 (length l₂ - 24) l₂ (places_down 4 21) e₃ (omega arith) in
    let end = entry 5 k ∷ [] in
    written_behind list 0 4 (places_up 2 (4 * t) 4) (places_up 3 0 20 ++ (places_down 4 21 ++ end)) e₁
    (written_behind l₁ 4 24 (places_up 3 0 20) (places_down 4 21 ++ end) w₂
    (written_behind l₂ 24 45 (places_down 4 21) end w₃ (ap (set (put_mid 24 (length l₂ - 24) l₂ part₃) 45) e₄) refl) refl) refl
