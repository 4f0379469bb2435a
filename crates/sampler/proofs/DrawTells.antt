-- What the entries of a draw tell: how many they are, and the degree and the accept bits. Assumes nothing.
use mathlib.Core.Path.{◌≡◌, refl, sym, ap, ap₂, ◌∙◌}
use mathlib.Core.Bool.{Bool}
use mathlib.Core.List.{List, [], ◌∷◌, ◌++◌, append_assoc, head-eq_of_cons-eq, tail-eq_of_cons-eq}
use Prim.Native.Nat.{ℕ, zero, suc, ◌+◌, ◌*◌, ◌^◌, ◌≤◌}
use native.Mathlib.Omega.{arith}
use lib.ListN.{length, get_or, length-append}
use Rattle.arithmetic.specs.Words.{bit}
use Rattle.arithmetic.proofs.Bits.{bit_injective}
use Rattle.read_list.specs.Entries.{places_up, places_down}
use Rattle.read_list.proofs.Parts.{parts_of_one_length}
use Rattle.attempt.specs.Attempt.{bit_at, attempt_entries}
use Rattle.attempt.proofs.AttemptLaws.{length_attempt}
use Rattle.sampler.specs.Draw.{still_wanted, bits_from, draw_bits, entries_from, draw_entries, DrawEntriesAtMost}

-- ** How many they are

pub length_entries : (bits : List Bool) (t before : ℕ) → length (entries_from t before bits) ≡ 46 * length bits + 1
unfolding entries_from
length_entries [] t before = omega arith
length_entries (b ∷ bits) t before = rw (length-append, length_attempt, length_entries bits) (omega arith)

-- no more attempts than are allowed
bits_at_most : (f : ℕ → Bool) (t left wanted : ℕ) → length (bits_from f t left wanted) ≤ left
unfolding bits_from
bits_at_most f t zero wanted = omega arith
bits_at_most f t (suc left) zero = omega arith
bits_at_most f t (suc left) (suc wanted) = omega (arith, bits_at_most f (suc t) left (still_wanted (f t) wanted))

pub draw_entries_at_most : DrawEntriesAtMost
unfolding draw_entries draw_bits
draw_entries_at_most e cdt words n limit want =
    let bits = bits_from (bit_at e cdt words) 0 limit want in
    omega (arith, bits_at_most (bit_at e cdt words) 0 limit want, length_entries bits 0 0)

pub length_draw_entries : (n : ℕ) (bits : List Bool) → length (draw_entries n bits) ≡ 46 * length bits + 2
unfolding draw_entries
length_draw_entries n bits = omega (arith, length_entries bits 0 0)

-- ** What they tell

-- the last entry of an attempt tells how many samples are accepted before it
attempt_tells : (t before before' : ℕ) (rest rest' : List ℕ) → attempt_entries t before ++ rest ≡ attempt_entries t before' ++ rest'
    → (before ≡ before') × (rest ≡ rest')
unfolding attempt_entries places_up places_down
attempt_tells t before before' rest rest' h =
    let same = length_attempt t before ∙ sym (length_attempt t before') in
    let parts = parts_of_one_length (attempt_entries t before) (attempt_entries t before') rest rest' same h in
    let last = ap (λ (l : List ℕ). get_or l 45 0) parts.0 in
    (omega arith, parts.1)

-- the attempts from t on; no place is so large that its entry is of another kind
attempts_tell : (t before before' : ℕ) (bits bits' : List Bool) (rest rest' : List ℕ) → t + length bits ≤ 2 ^ 24 → t + length bits' ≤ 2 ^ 24
    → entries_from t before bits ++ rest ≡ entries_from t before' bits' ++ rest'
    → (before ≡ before') × (bits ≡ bits') × (rest ≡ rest')
unfolding entries_from attempt_entries places_up
attempts_tell t before before' [] [] rest rest' few few' h = (let e = head-eq_of_cons-eq h in omega arith, refl, tail-eq_of_cons-eq h)
attempts_tell t before before' [] (b' ∷ bits') rest rest' few few' h = absurd (let e = head-eq_of_cons-eq h in omega arith)
attempts_tell t before before' (b ∷ bits) [] rest rest' few few' h = absurd (let e = head-eq_of_cons-eq h in omega arith)
attempts_tell t before before' (b ∷ bits) (b' ∷ bits') rest rest' few few' h =
    let later = entries_from (suc t) (before + bit b) bits in
    let later' = entries_from (suc t) (before' + bit b') bits' in
    let here = attempt_tells t before before' (later ++ rest) (later' ++ rest')
    (sym (append_assoc (attempt_entries t before) later rest) ∙ h ∙ append_assoc (attempt_entries t before') later' rest') in
    let k = attempts_tell (suc t) (before + bit b) (before' + bit b') bits bits' rest rest' (omega arith) (omega arith) here.1 in
    let same = here.0 in
    let sum = k.0 in
    (same, ap₂ ◌∷◌ (bit_injective b b' (omega arith)) k.1, k.2)

pub draw_tells : (n m : ℕ) (bits bits' : List Bool) (rest rest' : List ℕ) → length bits ≤ 2 ^ 24 → length bits' ≤ 2 ^ 24
    → draw_entries n bits ++ rest ≡ draw_entries m bits' ++ rest'
    → (n ≡ m) × (bits ≡ bits') × (rest ≡ rest')
unfolding draw_entries
draw_tells n m bits bits' rest rest' few few' h =
    let first = head-eq_of_cons-eq h in
    let k = attempts_tell 0 0 0 bits bits' rest rest' (omega arith) (omega arith) (tail-eq_of_cons-eq h) in
    (omega arith, k.1, k.2)
