-- What a reader finds in bytes, part by part, is what the definitions say. Assumes nothing.
use mathlib.Core.Path.{◌≡◌, refl, sym, ap, ◌∙◌}
use mathlib.Core.Bool.{Bool, true, false, cond, not, ◌||◌}
use Prim.Native.Nat.{ℕ, ◌+◌, ◌*◌, ◌≤◌}
use native.Mathlib.Omega.{arith}
use lib.ListN.{length}
use Rattle.bits.specs.Bits.{number}
use mir.Val.{bool_byte}
use Rattle.bits.specs.Items.{given, items_at, behind, each_at, items_of}
use Rattle.bits.proofs.Numbers.{number_below}
use Rattle.bits.proofs.Walking.{length_items}
use Rattle.checks.specs.Checks.{is_degree}
use Rattle.checks.proofs.JoinedTests.{both_true}
use Rattle.checks.proofs.Degrees.{degree_range}
use Rattle.challenge.specs.Challenge.{is_challenge}
use Rattle.record.specs.Reading.{next_value, value_at, is_value, positions_at, challenge_at, degree_of, has_challenge, has_z1, has_z2, count_if, z1_start, z2_start, fields_end, fields_of, are_fields}
use Rattle.record_reader.specs.declared.Contents.{Contents}
use Rattle.record_reader.specs.Call.{contents_of}
use Rattle.record.proofs.FieldSets.{stands_given}
use Rattle.record.proofs.Forms.{behind_most}

-- ** What may be missing

pub count_most : (has : Bool) (count : ℕ) → count_if has count ≤ count
count_most true count = omega arith
count_most false count = omega arith

-- the items of a field that may be missing, as they are read
pub items_given : {A : Type 0} (item : ℕ → A) (next : ℕ → ℕ) (at count : ℕ) (has : Bool) → items_of (given has (items_at item next at count)) ≡ items_at item next at (count_if has count)
unfolding items_of given items_at
items_given item next at count true = refl
items_given item next at count false = refl

pub length_given : {A : Type 0} (item : ℕ → A) (next : ℕ → ℕ) (at count : ℕ) (has : Bool) → length (items_of (given has (items_at item next at count))) ≡ count_if has count
length_given item next at count has = ap length (items_given item next at count has) ∙ length_items item next at (count_if has count)

-- ** Where the fields end

module _ (s : ℕ → Bool) where
  pub start_most : z1_start s ≤ 4112
  unfolding z1_start
  start_most = by (s 7)
    where
      by : (b : Bool) → cond b (24 + 8 + 16 * number s 24 8) 24 ≤ 4112
      by true = omega (arith, number_below s 24 8)
      by false = omega arith

  pub z2_start_most : degree_of s ≤ 1024 → z2_start s ≤ 39952
  unfolding z2_start
  z2_start_most d = omega (arith, behind_most s (z1_start s) (count_if (s 6) (degree_of s)), count_most (s 6) (degree_of s), start_most)

  pub fields_end_most : are_fields s ≡ true → fields_end s ≤ 75792
  unfolding are_fields fields_end
  fields_end_most h =
      let d = degree_range (degree_of s) (both_true (is_degree (degree_of s)) _ h).0 in
      omega (arith, behind_most s (z2_start s) (count_if (s 5) (degree_of s)), count_most (s 5) (degree_of s), z2_start_most d.1)

  -- ** Whether they are fields, as it is worked out

  -- what stands before z1, and how many values z1 has
  pub record Before (n start count : ℕ) : Type 0 where
    pub degree : n ≡ degree_of s
    pub is_degree_lem : is_degree n ≡ true
    pub challenge : (not (has_challenge s) || is_challenge n (challenge_at s 24)) ≡ true
    pub start_is : start ≡ z1_start s
    pub count_is : count ≡ count_if (has_z1 s) n

  -- the place behind z1, and how many values z2 has
  pub record Between (n start count end more : ℕ) : Type 0 where
    pub behind_z1 : end ≡ behind (next_value s) start count
    pub more_is : more ≡ count_if (has_z2 s) n

  module _ {n start count : ℕ} (b : Before n start count) where
    pub z1_fails : each_at (is_value s) (next_value s) start count ≡ false → are_fields s ≡ false
    unfolding are_fields
    z1_fails f = rw (sym b.degree, b.is_degree_lem, b.challenge, sym b.count_is, sym b.start_is, f)

    module _ {end more : ℕ} (m : Between n start count end more) where
      pub by_z2 : each_at (is_value s) (next_value s) start count ≡ true → each_at (is_value s) (next_value s) end more ≡ are_fields s
      unfolding are_fields z2_start
      by_z2 t =
          rw (sym b.degree, b.is_degree_lem, b.challenge, sym b.count_is, sym b.start_is, t, m.behind_z1, m.more_is)

      pub end_is : behind (next_value s) end more ≡ fields_end s
      unfolding fields_end z2_start
      end_is = rw (sym b.degree, sym b.count_is, sym b.start_is, m.behind_z1, m.more_is)

-- ** The contents, as they are worked out

pub record Lengths (s : ℕ → Bool) (map n positions z1 z2 : ℕ) : Type 0 where
  pub map_is : map ≡ number s 5 3
  pub degree : n ≡ degree_of s
  pub positions_is : positions ≡ count_if (has_challenge s) (number s 24 8)
  pub z1_is : z1 ≡ count_if (has_z1 s) n
  pub z2_is : z2 ≡ count_if (has_z2 s) n

-- three bits of the map, as a number
map_number : (s : ℕ → Bool) → number s 5 3 ≡ bool_byte (s 7) + 2 * bool_byte (s 6) + 4 * bool_byte (s 5)
unfolding number
map_number s = omega arith

pub contents_are : {s : ℕ → Bool} {map n positions z1 z2 : ℕ} → Lengths s map n positions z1 z2
    → ◌≡◌ {A = Contents} (record { refusal = 0; map = map; degree = n; positions = positions; z1 = z1; z2 = z2 }) (contents_of (fields_of s))
unfolding contents_of fields_of positions_at
contents_are {s = s} l =
    rw (
      l.map_is,
      l.positions_is,
      l.z1_is,
      l.z2_is,
      l.degree,
      map_number s,
      stands_given (s 7) (challenge_at s 24),
      stands_given (s 6) (items_at (value_at s) (next_value s) (z1_start s) (degree_of s)),
      stands_given (s 5) (items_at (value_at s) (next_value s) (z2_start s) (degree_of s)),
      length_given (λ (i : ℕ). number s i 16) (λ (i : ℕ). i + 16) 32 (number s 24 8) (s 7),
      length_given (value_at s) (next_value s) (z1_start s) (degree_of s) (s 6),
      length_given (value_at s) (next_value s) (z2_start s) (degree_of s) (s 5),
    )
