-- The exponents of a response, and the entries of its judging. Assumes nothing.
use mathlib.Core.Path.{◌≡◌, refl, ap, ◌∙◌}
use mathlib.Core.Bool.{Bool, true, false}
use mathlib.Core.List.{List, [], ◌∷◌, ◌++◌}
use Prim.Native.Nat.{ℕ, ◌-◌, ◌≤◌, min}
use borrow.Rule.Slice.PartMut.{put_mid}
use native.Mathlib.Omega.{arith}
use lib.ListN.{length, take, drop, set}
use lib.Seq.{sets, length-sets}
use mir.Val.{bool_byte}
use Rattle.arithmetic.specs.Words.{bit}
use Rattle.read_list.specs.Entries.{entry, places_down}
use Rattle.read_list.proofs.InPart.{written_in_part}
use Rattle.read_list.proofs.Written.{written_behind}
use Rattle.acceptance.specs.Acceptance.{squares_limit, first_exponent, acceptance_entries}

pub first_exponent_lem : (a : ℕ) → squares_limit - min a squares_limit ≡ first_exponent a
first_exponent_lem a = omega arith

-- ** The entries

byte_is_bit : (t : Bool) → bool_byte t ≡ bit t
byte_is_bit true = refl
byte_is_bit false = refl

-- the second exponential's are in the part behind the first's, and the bit's is behind both
pub judging_written : (t : Bool) (list : List ℕ) {list₁ part : List ℕ} {last : ℕ} → 43 ≤ length list → list₁ ≡ sets list 0 (places_down 4 21)
    → part ≡ sets (take (length list₁ - 21) (drop 21 list₁)) 0 (places_down 4 21) → last ≡ entry 9 (bool_byte t)
    → set (put_mid 21 (length list₁ - 21) list₁ part) 42 last ≡ sets list 0 (acceptance_entries t)
unfolding acceptance_entries places_down
judging_written t list {list₁ = list₁} h e₁ e₂ e₃ =
    let down = places_down 4 21 in
    let size : length list₁ ≡ length list = ap length e₁ ∙ length-sets list 0 down in
    let second = written_in_part 21 _ list₁ down e₂ (omega (arith, size, h)) in
    written_behind list 0 21 down (down ++ (entry 9 (bit t) ∷ [])) e₁
    (written_behind list₁ 21 42 down (entry 9 (bit t) ∷ []) second (ap (set _ 42) (e₃ ∙ rw (byte_is_bit t))) refl) refl
