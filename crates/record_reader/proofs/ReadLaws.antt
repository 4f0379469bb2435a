-- What a read writes and answers. Assumes nothing.
use mathlib.Core.Path.{◌≡◌, refl, sym, ap, ◌∙◌}
use mathlib.Core.Bool.{Bool, true, false, cond, not, ◌||◌}
use mathlib.Core.List.{List, [], ◌∷◌, ◌++◌}
use Prim.Native.Nat.{ℕ, ◌+◌, ◌≤◌}
use native.Mathlib.Omega.{arith}
use borrow.Author.Tests.{leb-true}
use lib.Dec.{leb, ltb}
use lib.IntN.{ℤ}
use lib.ListN.{length, drop}
use Rattle.lists.proofs.AtTheStart.{written}
use lib.Seq.{sets}
use Rattle.bits.specs.Bits.{number, bit_at}
use Rattle.bits.specs.Items.{given, items_at, behind, each_at, items_of}
use Rattle.bits.proofs.Numbers.{number_below}
use Rattle.checks.specs.Checks.{is_degree}
use Rattle.checks.proofs.JoinedTests.{both_true, below_not_above, all_hold, or_fails, one_fails}
use Rattle.checks.proofs.Degrees.{degree_range}
use Rattle.challenge.specs.Challenge.{is_challenge}
use Rattle.record_reader.specs.declared.Contents.{Contents}
use Rattle.record.specs.Reading.{value_at, next_value, is_value, positions_at, challenge_at, degree_of, has_challenge, has_z1, count_if, z1_start, z2_start, fields_of, are_fields, is_record, field_set_of}
use Rattle.std.specs.Prelude.{Result, Ok, Err}
use Rattle.refused.specs.declared.Refusal.{Refusal}
use Rattle.refused.specs.declared.Refusal.TheVariants.{Output, Record}
use Rattle.record_reader.specs.Checked.{to_read, answer_of}
use Rattle.record_reader.specs.Call.{contents_of, have_room, after_read, handed_over, read_left}
use Rattle.record_reader.proofs.Fields.{count_most, items_given, length_given, z2_start_most}

-- ** The fields, by the lengths that are answered

module _ (s : ℕ → Bool) where
  abbrev answer : Contents
  answer = contents_of (fields_of s)

  positions_count : answer.positions ≡ count_if (s 7) (number s 24 8)
  unfolding contents_of fields_of positions_at
  positions_count = length_given (λ (i : ℕ). number s i 16) (λ (i : ℕ). i + 16) 32 (number s 24 8) (s 7)

  z1_count : answer.z1 ≡ count_if (s 6) (degree_of s)
  unfolding contents_of fields_of
  z1_count = length_given (value_at s) (next_value s) (z1_start s) (degree_of s) (s 6)

  z2_count : answer.z2 ≡ count_if (s 5) (degree_of s)
  unfolding contents_of fields_of
  z2_count = length_given (value_at s) (next_value s) (z2_start s) (degree_of s) (s 5)

  -- these lengths are those of the fields
  pub lengths : (answer.positions ≡ length (items_of (fields_of s).challenge)) × (answer.z1 ≡ length (items_of (fields_of s).z1)) × (answer.z2 ≡ length (items_of (fields_of s).z2))
  unfolding contents_of
  lengths = (refl, refl, refl)

  -- the values of z1 and z2 are values
  pub are_values : are_fields s ≡ true →
      (each_at (is_value s) (next_value s) (z1_start s) answer.z1 ≡ true) × (each_at (is_value s) (next_value s) (z2_start s) answer.z2 ≡ true)
  unfolding are_fields
  are_values h =
      let t = both_true (is_degree (degree_of s)) _ h in
      let u = both_true (not (has_challenge s) || is_challenge (degree_of s) (challenge_at s 24)) _ t.1 in
      rw (z1_count, z2_count) (both_true (each_at (is_value s) (next_value s) (z1_start s) (count_if (has_z1 s) (degree_of s))) _ u.1)

  pub positions_read : positions_at s 32 answer.positions ≡ items_of (fields_of s).challenge
  unfolding fields_of positions_at
  positions_read = rw positions_count (sym (items_given (λ (i : ℕ). number s i 16) (λ (i : ℕ). i + 16) 32 (number s 24 8) (s 7)))

  pub z1_read : items_at (value_at s) (next_value s) (z1_start s) answer.z1 ≡ items_of (fields_of s).z1
  unfolding fields_of
  z1_read = rw z1_count (sym (items_given (value_at s) (next_value s) (z1_start s) (degree_of s) (s 6)))

  pub z2_read : items_at (value_at s) (next_value s) (z2_start s) answer.z2 ≡ items_of (fields_of s).z2
  unfolding fields_of
  z2_read = rw z2_count (sym (items_given (value_at s) (next_value s) (z2_start s) (degree_of s) (s 5)))

  pub z2_start_read : behind (next_value s) (z1_start s) answer.z1 ≡ z2_start s
  unfolding z2_start
  z2_start_read = rw z1_count

  pub record Most : Type 0 where
    pub positions : answer.positions ≤ 255
    pub z1 : answer.z1 ≤ 1024
    pub z2 : answer.z2 ≤ 1024
    pub z2_start_lem : z2_start s ≤ 39952

  pub most : are_fields s ≡ true → Most
  unfolding are_fields
  most h =
      let d = degree_range (degree_of s) (both_true (is_degree (degree_of s)) _ h).0 in
      record {
        positions = omega (arith, positions_count, count_most (s 7) (number s 24 8), number_below s 24 8);
        z1 = omega (arith, z1_count, count_most (s 6) (degree_of s), d);
        z2 = omega (arith, z2_count, count_most (s 5) (degree_of s), d);
        z2_start_lem = z2_start_most s d.1;
      }

-- ** Room in the buffers

-- a list that was cut in two, and the first part of which is written
pub written_over : {A : Type 0} (list es : List A) {now : List A} {n : ℕ} → now ≡ es → n ≡ length es → n ≤ length list → now ++ drop n list ≡ sets list 0 es
written_over list es e l h = rw (e, l) (sym (written list es (omega (arith, l, h))))

pub fits : (a : Contents) (c x y : ℕ) → have_room a c x y ≡ true → (a.positions ≤ c) × (a.z1 ≤ x) × (a.z2 ≤ y)
fits a c x y h =
    let t = both_true (leb a.positions c) _ h in
    let u = both_true (leb a.z1 x) (leb a.z2 y) t.1 in
    (leb-true a.positions c t.0, leb-true a.z1 x u.0, leb-true a.z2 y u.1)

-- the test of the code, as the definition has it
pub no_room : (a : Contents) (c x y : ℕ) → ((ltb c a.positions || ltb x a.z1) || ltb y a.z2) ≡ not (have_room a c x y)
unfolding or_fails all_hold
no_room a c x y =
    rw (below_not_above c a.positions, below_not_above x a.z1, below_not_above y a.z2)
    (one_fails (leb a.positions c) (leb a.z1 x ∷ leb a.z2 y ∷ []))

-- ** What is left

module _ (bytes : List ℕ) (c x y : ℕ) where
  -- what is known where the tests are passed
  pub record Served (contents : Contents) : Type 0 where
    pub is_record_lem : is_record bytes ≡ true
    pub contents_is : contents ≡ contents_of (fields_of (bit_at bytes))
    pub room : have_room contents c x y ≡ true

  pub served : {contents : Contents} → Ok contents ≡ to_read bytes c x y → Served contents
  unfolding to_read
  served {contents = k} e = by (is_record bytes) refl (have_room (answer (bit_at bytes)) c x y) refl e
    where
      by : (is : Bool) → is_record bytes ≡ is → (room : Bool) → have_room (answer (bit_at bytes)) c x y ≡ room
          → ◌≡◌ {A = Result Contents Refusal} (Ok k) (cond is (cond room (Ok (answer (bit_at bytes))) (Err Output)) (Err Record)) → Served k
      by true h true g f = let same : k ≡ (answer (bit_at bytes)) = cc in record { is_record_lem = h; contents_is = same; room = rw same g }
      by true h false g f = absurd cc
      by false h room g f = absurd cc

pub left_refused : (bytes challenge : List ℕ) (z1 z2 : List ℤ) {refusal : Refusal} → Err refusal ≡ to_read bytes (length challenge) (length z1) (length z2)
    → after_read (answer_of (Err refusal)) challenge z1 z2 ≡ read_left bytes challenge z1 z2
unfolding to_read handed_over field_set_of given
left_refused bytes challenge z1 z2 {refusal = r} e = by (is_record bytes) refl (have_room (answer (bit_at bytes)) (length challenge) (length z1) (length z2)) refl e
  where
    by : (is : Bool) → is_record bytes ≡ is → (room : Bool) → have_room (answer (bit_at bytes)) (length challenge) (length z1) (length z2) ≡ room
        → ◌≡◌ {A = Result Contents Refusal} (Err r) (cond is (cond room (Ok (answer (bit_at bytes))) (Err Output)) (Err Record))
        → after_read (answer_of (Err r)) challenge z1 z2 ≡ read_left bytes challenge z1 z2
    by true h true g f = absurd cc
    by true h false g f = let same : r ≡ Output = cc in rw (same, h, g)
    by false h room g f = let same : r ≡ Record = cc in rw (same, h)

-- the fields
pub left_served : (bytes challenge : List ℕ) (z1 z2 : List ℤ) {r : Contents} {c : List ℕ} {a b : List ℤ} → let f = fields_of (bit_at bytes) in
    Served bytes (length challenge) (length z1) (length z2) r
    → c ≡ sets challenge 0 (items_of f.challenge) → a ≡ sets z1 0 (items_of f.z1) → b ≡ sets z2 0 (items_of f.z2)
    → after_read r c a b ≡ read_left bytes challenge z1 z2
unfolding handed_over field_set_of given
left_served bytes challenge z1 z2 s ec ea eb =
    rw (s.is_record_lem, sym (ap (λ (k : Contents). have_room k (length challenge) (length z1) (length z2)) s.contents_is) ∙ s.room, s.contents_is, ec, ea, eb)

-- bytes that are a record have fields
pub have_fields : (bytes : List ℕ) → is_record bytes ≡ true → are_fields (bit_at bytes) ≡ true
unfolding is_record
have_fields bytes h = (both_true (are_fields (bit_at bytes)) _ h).0
