-- The forms of S-3 are read off a stream: a value of z, and a challenge. Assumes nothing.
use mathlib.Core.Path.{◌≡◌, refl, sym, ap, subst, ◌∙◌}
use mathlib.Core.Bool.{Bool, true, false, not, ◌&&◌, and-eq-true_iff}
use mathlib.Core.List.{List, [], ◌∷◌, ◌++◌}
use mathlib.Core.Option.{Option}
use Prim.Native.Nat.{ℕ, zero, suc, ◌+◌, ◌*◌, ◌/◌, ◌%◌, ◌^◌, ◌≤◌, ◌<◌}
use native.Mathlib.Nat.{mod-eq_of_lt}
use native.Mathlib.Numerals.{add-one}
use native.Mathlib.Omega.{arith}
use borrow.Author.Tests.{leb-true, le-leb, eqb-true, eq-eqb, ne_eqb}
use lib.Dec.{leb, eqb}
use mir.Syntax.{w32}
use mir.Val.{SFits}
use lib.IntN.{ℤ, pos, negsuc, nat_abs}
use lib.ListN.{length, get_or, replicate, length-append}
use Rattle.bits.specs.Bits.{digits, number}
use Rattle.bits.specs.Items.{joined, given, stands, form_if, items_at, behind, each_at}
use Rattle.bits.proofs.Numbers.{number_below}
use Rattle.bits.proofs.Streams.{Holds, length_digits, holds_first, holds_rest, holds_both, holds_number, number_holds, holds_zeros, zeros_holds, zeros_most, digits_low}
use Rattle.bits.proofs.Reading.{Stands, Finds, Reads, Each, IfGiven, reads_number, reads_list, reads_given, reads_same}
use Rattle.checks.proofs.JoinedTests.{both_true}
use Rattle.signed.specs.Vectors.{all_within}
use Rattle.challenge.specs.Challenge.{is_challenge}
use Rattle.challenge.proofs.Positions.{challenge_of, position_below}
use Rattle.signed.proofs.Signs.{fits_of_abs}
use Rattle.record.specs.Record.{value_limit, is_half, negative, value_bits, challenge_bits}
use Rattle.record.specs.Lengths.{packed_length}
use Rattle.record.proofs.FieldSets.{length_value}
use Rattle.record.proofs.Lengths.{packed_size}
use Rattle.record.specs.Reading.{with_sign, count_if, zeros_at, size_at, value_at, next_value, is_value, positions_at, challenge_at, next_challenge}

-- ** A value by its sign and size

size_of : (minus : Bool) (size : ℕ) → nat_abs (with_sign minus size) ≡ size
size_of true zero = refl
size_of true (suc size) = refl
size_of false size = refl

sign_of : (minus : Bool) (size : ℕ) → not (minus && eqb size 0) ≡ true → negative (with_sign minus size) ≡ minus
sign_of true zero h = h
sign_of true (suc size) h = refl
sign_of false size h = refl

value_of : (v : ℤ) → with_sign (negative v) (nat_abs v) ≡ v
value_of (pos n) = refl
value_of (negsuc n) = refl

no_minus_zero : (v : ℤ) → not (negative v && eqb (nat_abs v) 0) ≡ true
no_minus_zero (pos n) = refl
no_minus_zero (negsuc n) = rw (ne_eqb (suc n) 0 (λ e. omega (arith, e)))

-- ** A value is read

module _ (s : ℕ → Bool) where
  -- what stands behind the sign, by the number and the zeros that are found
  size_held : (at : ℕ) → zeros_at s at < 26
      → Holds s (suc at) (digits 7 (size_at s at) ++ (replicate (size_at s at / 128) false ++ (true ∷ [])))
  size_held at l =
      let low = number s (at + 1) 7 in
      let over = zeros_at s at in
      let q : (low + 128 * over) / 128 ≡ over = omega (arith, number_below s (at + 1) 7) in
      let d : low + 128 * over ≡ low + over * 2 ^ 7 = omega arith in
      let e : at + 8 ≡ suc at + 7 = omega arith in
      rw (q, d, digits_low 7 low over)
      (holds_both s (suc at) (digits 7 low) (replicate over false ++ (true ∷ []))
      (subst (λ (i : ℕ). Holds s i (digits 7 low)) (add-one at) (holds_number s (at + 1) 7))
      (rw (length_digits 7 low, ← e) (holds_zeros s (at + 8) 26 l)))

  value_ends : (at : ℕ) (v : ℤ) → zeros_at s at ≡ nat_abs v / 128 → next_value s at ≡ at + length (value_bits v)
  unfolding next_value
  value_ends at v e = omega (arith, e, length_value v)

  value_sound : (at : ℕ) → is_value s at ≡ true → Stands s value_bits (λ (v : ℤ). nat_abs v ≤ value_limit) at (value_at s at) (next_value s at)
  unfolding is_value value_at value_bits
  value_sound at h =
      let t = (and-eq-true_iff (leb (size_at s at) value_limit) (not (s at && eqb (size_at s at) 0))).0 h in
      let size = size_of (s at) (size_at s at) in
      let l = leb-true (size_at s at) value_limit t.0 in
      record {
        good = rw size l;
        holds = (sym (sign_of (s at) (size_at s at) t.1), rw size (size_held at (omega (arith, l))));
        ends = value_ends at (value_at s at) (omega (arith, size, number_below s (at + 1) 7));
      }

  value_complete : (at : ℕ) (v : ℤ) → nat_abs v ≤ value_limit → Holds s at (value_bits v) → Finds value_bits (value_at s) (next_value s) (is_value s) at v
  unfolding is_value value_at value_bits
  value_complete at v small h =
      let x = nat_abs v in
      let rest = replicate (x / 128) false ++ (true ∷ []) in
      let e : at + 8 ≡ suc at + 7 = omega arith in
      let low : number s (at + 1) 7 ≡ x % 128 = rw (add-one at) (number_holds s (suc at) 7 x (holds_first s (suc at) (digits 7 x) rest h.1)) in
      let over : zeros_at s at ≡ x / 128 = rw e (zeros_holds s (suc at + 7) 26 (x / 128) (omega arith) (rw (length_digits 7 x) at (holds_rest s (suc at) (digits 7 x) rest h.1))) in
      let size : size_at s at ≡ x = omega (arith, low, over) in
      record {
        found = rw (h.0, size) (value_of v);
        ends = value_ends at v over;
        passed = rw (h.0, size, le-leb x value_limit small) (no_minus_zero v);
      }

  -- where it ends, by the packed length of the size that is found
  pub packed_next : (at : ℕ) → is_value s at ≡ true → at + packed_length (size_at s at) ≡ next_value s at
  unfolding is_value next_value
  packed_next at h =
      let l = leb-true (size_at s at) value_limit (both_true (leb (size_at s at) value_limit) _ h).0 in
      omega (arith, packed_size l, number_below s (at + 1) 7)

  pub reads_value : Reads s value_bits (λ (v : ℤ). nat_abs v ≤ value_limit) (value_at s) (next_value s) (is_value s)
  reads_value = record { sound = value_sound; complete = value_complete }

-- ** A half of z is read

all_within_lem : (z : List ℤ) → Each (λ (v : ℤ). nat_abs v ≤ value_limit) z → all_within value_limit z ≡ true
unfolding all_within
all_within_lem [] g = refl
all_within_lem (v ∷ z) g = rw (le-leb (nat_abs v) value_limit g.0) (all_within_lem z g.1)

each_within : (z : List ℤ) → all_within value_limit z ≡ true → Each (λ (v : ℤ). nat_abs v ≤ value_limit) z
unfolding all_within
each_within [] h = tt
each_within (v ∷ z) h =
    let t = both_true (leb (nat_abs v) value_limit) (all_within value_limit z) h in
    (leb-true (nat_abs v) value_limit t.0, each_within z t.1)

pub reads_half : (s : ℕ → Bool) (n : ℕ) → Reads s (joined value_bits) (λ (z : List ℤ). is_half n z ≡ true)
    (λ (at : ℕ). items_at (value_at s) (next_value s) at n) (λ (at : ℕ). behind (next_value s) at n) (λ (at : ℕ). each_at (is_value s) (next_value s) at n)
reads_half s n =
    reads_same (reads_list (reads_value s) n) (λ (z : List ℤ). is_half n z ≡ true)
    (λ z g. rw (eq-eqb (length z) n g.0) (all_within_lem z g.1))
    (λ z h. let t = both_true (eqb (length z) n) (all_within value_limit z) h in (eqb-true (length z) n t.0, each_within z t.1))

-- a half that may be missing
pub reads_half_if : (s : ℕ → Bool) (n : ℕ) (has : Bool) → Reads s (form_if (joined value_bits)) (λ (z : Option (List ℤ)). (stands z ≡ has) × IfGiven (λ (l : List ℤ). is_half n l ≡ true) z)
    (λ (at : ℕ). given has (items_at (value_at s) (next_value s) at n)) (λ (at : ℕ). behind (next_value s) at (count_if has n)) (λ (at : ℕ). each_at (is_value s) (next_value s) at (count_if has n))
unfolding behind each_at
reads_half_if s n true = reads_given (reads_half s n) true
reads_half_if s n false = reads_given (reads_half s n) false

-- ** A challenge is read

behind_positions : (at count : ℕ) → behind (λ (i : ℕ). i + 16) at count ≡ at + 16 * count
unfolding behind
behind_positions at zero = omega arith
behind_positions at (suc count) = behind_positions (at + 16) count ∙ omega arith

each_passes : (next : ℕ → ℕ) (at count : ℕ) → each_at (λ (i : ℕ). true) next at count ≡ true
unfolding each_at
each_passes next at zero = refl
each_passes next at (suc count) = each_passes next (next at) count

each_position : (c : List ℕ) → ((k : ℕ) → k < length c → get_or c k 0 < 2 ^ 16) → Each (λ (x : ℕ). x < 2 ^ 16) c
each_position [] h = tt
each_position (p ∷ c) h = (h 0 (omega arith), each_position c (λ k l. h (suc k) (omega arith)))

module _ (s : ℕ → Bool) (n : ℕ) (degree : n ≤ 1024) where
  reads_positions : (count : ℕ) → Reads s (joined (digits 16)) (λ (c : List ℕ). (length c ≡ count) × Each (λ (x : ℕ). x < 2 ^ 16) c)
      (λ (at : ℕ). items_at (λ (i : ℕ). number s i 16) (λ (i : ℕ). i + 16) at count) (λ (at : ℕ). behind (λ (i : ℕ). i + 16) at count) (λ (at : ℕ). each_at (λ (i : ℕ). true) (λ (i : ℕ). i + 16) at count)
  reads_positions count = reads_list (reads_number s 16) count

  challenge_ends : (at count : ℕ) (c : List ℕ) → length c ≡ count → behind (λ (i : ℕ). i + 16) (at + 8) count ≡ at + 8 + length (joined (digits 16) c) → at + 8 + 16 * count ≡ at + length (challenge_bits c)
  unfolding challenge_bits
  challenge_ends at count c e f = omega (arith, f, behind_positions (at + 8) count, length-append (digits 8 (length c)) (joined (digits 16) c), length_digits 8 (length c))

  challenge_sound : (at : ℕ) → is_challenge n (challenge_at s at) ≡ true
      → Stands s challenge_bits (λ (c : List ℕ). is_challenge n c ≡ true) at (challenge_at s at) (next_challenge s at)
  unfolding challenge_bits positions_at
  challenge_sound at h =
      let count = number s at 8 in
      let c = challenge_at s at in
      let t = (reads_positions count).sound (at + 8) (each_passes (λ (i : ℕ). i + 16) (at + 8) count) in
      record {
        good = h;
        holds = holds_both s at (digits 8 (length c)) (joined (digits 16) c)
            (rw t.good.0 (holds_number s at 8))
            (rw (length_digits 8 (length c)) t.holds);
        ends = challenge_ends at count c t.good.0 t.ends;
      }

  challenge_complete : (at : ℕ) (c : List ℕ) → is_challenge n c ≡ true → Holds s at (challenge_bits c)
      → Finds challenge_bits (challenge_at s) (next_challenge s) (λ (i : ℕ). is_challenge n (challenge_at s i)) at c
  unfolding challenge_bits positions_at
  challenge_complete at c good h =
      let known = challenge_of n c good in
      let count : number s at 8 ≡ length c = number_holds s at 8 (length c) (holds_first s at (digits 8 (length c)) (joined (digits 16) c) h) ∙ mod-eq_of_lt (omega (arith, known.few)) in
      let small = each_position c (λ k l. omega (arith, position_below n c k known.below l)) in
      let f = (reads_positions (length c)).complete (at + 8) c (refl, small) (rw (length_digits 8 (length c)) at (holds_rest s at (digits 8 (length c)) (joined (digits 16) c) h)) in
      let found : challenge_at s at ≡ c = rw count f.found in
      record {
        found = found;
        ends = rw count (challenge_ends at (length c) c refl f.ends);
        passed = ap (is_challenge n) found ∙ good;
      }

  pub reads_challenge : Reads s challenge_bits (λ (c : List ℕ). is_challenge n c ≡ true) (challenge_at s) (next_challenge s) (λ (at : ℕ). is_challenge n (challenge_at s at))
  reads_challenge = record { sound = challenge_sound; complete = challenge_complete }

-- ** How far values reach

pub next_most : (s : ℕ → Bool) (at : ℕ) → next_value s at ≤ at + 35
unfolding next_value
next_most s at = omega (arith, zeros_most s (at + 8) 26)

pub behind_most : (s : ℕ → Bool) (at count : ℕ) → behind (next_value s) at count ≤ at + 35 * count
unfolding behind
behind_most s at zero = omega arith
behind_most s at (suc count) = omega (arith, behind_most s (next_value s at) count, next_most s at)

-- what stands in a stream fits 32 bits, whether it is a value or not
pub value_fits : (s : ℕ → Bool) (at : ℕ) → SFits w32 (value_at s at)
unfolding value_at
value_fits s at = fits_of_abs (omega (arith, size_of (s at) (size_at s at), number_below s (at + 1) 7, zeros_most s (at + 8) 26))
