-- Records and field sets are one for one. Assumes nothing.
use mathlib.Core.Path.{◌≡◌, refl, sym, ap, subst, ◌∙◌}
use mathlib.Core.Bool.{Bool, true, false, not, ◌&&◌, ◌||◌}
use mathlib.Core.List.{List, ◌++◌}
use mathlib.Core.Option.{Option, some}
use Prim.Native.Nat.{ℕ, ◌+◌, ◌<◌}
use native.Mathlib.Nat.{mod-eq_of_lt, zero-add}
use native.Mathlib.Omega.{arith}
use borrow.Author.Tests.{eqb-true, eq-eqb}
use lib.Dec.{eqb}
use lib.IntN.{ℤ}
use lib.ListN.{length, get_or, length-append}
use Rattle.bits.specs.Bits.{digits, number, bit_at, bytes_for, packed}
use Rattle.bits.specs.Items.{joined, given, stands, form_if, each_at}
use Rattle.bits.proofs.Numbers.{zero_number}
use Rattle.bits.proofs.Streams.{Holds, length_digits, holds_first, holds_rest, holds_both, holds_number, number_holds}
use Rattle.bits.proofs.Packing.{length_packed, packed_small, packed_holds, packed_padding, packed_held}
use Rattle.bits.proofs.Reading.{IfGiven, reads_given}
use Rattle.checks.specs.Checks.{is_degree}
use Rattle.checks.proofs.JoinedTests.{both_true}
use Rattle.checks.proofs.Degrees.{degree_range}
use Rattle.challenge.specs.Challenge.{is_challenge}
use Rattle.record.specs.Record.{FieldSet, is_half, is_field_set, value_bits, challenge_bits, map_bits, field_bits, record_of}
use Rattle.record.specs.Reading.{count_if, degree_of, challenge_at, next_value, is_value, z1_start, z2_start, fields_end, fields_of, are_fields, is_record, field_set_of}
use Rattle.record.specs.OneForOne.{RecordsAreBytes, RoundTrip, JustOneRecord, JustOneFieldSet, RecordsAlone, LongestRecord}
use Rattle.record.proofs.FieldSets.{Storable, storable, is_field_set_lem, length_fields, stands_given, challenge_most, half_most}
use Rattle.record.proofs.Forms.{reads_half_if, reads_challenge}

-- the fields make the field set
same_fields : (f : FieldSet) (n : ℕ) (c : Option (List ℕ)) (a b : Option (List ℤ)) → n ≡ f.n → c ≡ f.challenge → a ≡ f.z1 → b ≡ f.z2
    → ◌≡◌ {A = FieldSet} (record { n = n; challenge = c; z1 = a; z2 = b }) f
same_fields f n c a b e₁ e₂ e₃ e₄ = rw (e₁, e₂, e₃, e₄)

four_true : {a b c d : Bool} → a ≡ true → b ≡ true → c ≡ true → d ≡ true → (a && (b && (c && d))) ≡ true
four_true e₁ e₂ e₃ e₄ = rw (e₁, e₂, e₃, e₄)

-- ** Fields in a row

ends_together : {x y z l : ℕ} (p q r : ℕ) → x ≡ 24 + p → y ≡ x + q → z ≡ y + r → l ≡ 24 + (p + (q + r)) → z ≡ l
ends_together p q r e₁ e₂ e₃ e₄ = omega (arith, e₁, e₂, e₃, e₄)

module _ (s : ℕ → Bool) where
  -- bits stand from a place to another
  record Row (at : ℕ) (bits : List Bool) (end : ℕ) : Type 0 where
    holds : Holds s at bits
    ends : end ≡ at + length bits

  then : {at mid end : ℕ} {xs ys : List Bool} → Row at xs mid → Row mid ys end → Row at (xs ++ ys) end
  then {at = at} {xs = xs} {ys = ys} r q =
      record {
        holds = holds_both s at xs ys r.holds (subst (λ (i : ℕ). Holds s i ys) r.ends q.holds);
        ends = omega (arith, r.ends, q.ends, length-append xs ys);
      }

  -- ** What passes the tests stands there

  map_held : (f : FieldSet) → number s 0 5 ≡ 0 → stands f.challenge ≡ s 7 → stands f.z1 ≡ s 6 → stands f.z2 ≡ s 5 → Row 0 (map_bits f) 8
  unfolding map_bits
  map_held f e c a b =
      let z = zero_number s 0 5 e in
      record {
        holds = (z 0 (omega arith), (z 1 (omega arith), (z 2 (omega arith), (z 3 (omega arith), (z 4 (omega arith), (sym b, (sym a, (sym c, tt))))))));
        ends = refl;
      }

  record Sound : Type 0 where
    fields : Storable (fields_of s)
    row : Row 0 (field_bits (fields_of s)) (fields_end s)

  fields_sound : number s 0 5 ≡ 0 → are_fields s ≡ true → Sound
  unfolding are_fields fields_of field_bits z1_start z2_start fields_end
  fields_sound e h =
      let n = degree_of s in
      let t = both_true (is_degree n) _ h in
      let u = both_true (not (s 7) || is_challenge n (challenge_at s 24)) _ t.1 in
      let v = both_true (each_at (is_value s) (next_value s) (z1_start s) (count_if (s 6) n)) _ u.1 in
      let c = (reads_given (reads_challenge s n (degree_range n t.0).1) (s 7)).sound 24 u.0 in
      let a = (reads_half_if s n (s 6)).sound (z1_start s) v.0 in
      let b = (reads_half_if s n (s 5)).sound (z2_start s) v.1 in
      let map_row = map_held (fields_of s) e c.good.0 a.good.0 b.good.0 in
      let n_row : Row 8 (digits 16 n) 24 = record { holds = holds_number s 8 16; ends = ap (λ (l : ℕ). 8 + l) (sym (length_digits 16 n)) } in
      let c_row : Row 24 (form_if challenge_bits (fields_of s).challenge) (z1_start s) = record { holds = c.holds; ends = c.ends } in
      let a_row : Row (z1_start s) (form_if (joined value_bits) (fields_of s).z1) (z2_start s) = record { holds = a.holds; ends = a.ends } in
      let b_row : Row (z2_start s) (form_if (joined value_bits) (fields_of s).z2) (fields_end s) = record { holds = b.holds; ends = b.ends } in
      record {
        fields = record { degree = t.0; challenge = c.good.1; z1 = a.good.1; z2 = b.good.1 };
        row = then map_row (then n_row (then c_row (then a_row b_row)));
      }

  -- ** What stands there passes the tests

  record Complete (f : FieldSet) : Type 0 where
    map : number s 0 5 ≡ 0
    fields : are_fields s ≡ true
    same : fields_of s ≡ f
    ends : fields_end s ≡ length (field_bits f)

  record Map (f : FieldSet) : Type 0 where
    others : number s 0 5 ≡ 0
    challenge : stands f.challenge ≡ s 7
    z1 : stands f.z1 ≡ s 6
    z2 : stands f.z2 ≡ s 5
    rest : Holds s 8 (digits 16 f.n ++ (form_if challenge_bits f.challenge ++ (form_if (joined value_bits) f.z1 ++ form_if (joined value_bits) f.z2)))

  map_read : (f : FieldSet) → Holds s 0 (field_bits f) → Map f
  unfolding map_bits field_bits number
  map_read f h =
      let m = h.1.1.1.1.1 in
      record {
        others = rw (h.0, h.1.0, h.1.1.0, h.1.1.1.0, h.1.1.1.1.0);
        z2 = sym m.0;
        z1 = sym m.1.0;
        challenge = sym m.1.1.0;
        rest = m.1.1.1;
      }

  fields_complete : (f : FieldSet) → Storable f → Holds s 0 (field_bits f) → Complete f
  unfolding are_fields fields_of z1_start z2_start fields_end
  fields_complete f g h =
      let m = map_read f h in
      let n = degree_of s in
      let zs = form_if (joined value_bits) f.z1 ++ form_if (joined value_bits) f.z2 in
      let rest = form_if challenge_bits f.challenge ++ zs in
      let range = degree_range f.n g.degree in
      let e : n ≡ f.n = number_holds s 8 16 f.n (holds_first s 8 (digits 16 f.n) rest m.rest) ∙ mod-eq_of_lt (omega (arith, range)) in
      let hc : Holds s 24 rest = rw (length_digits 16 f.n) at (holds_rest s 8 (digits 16 f.n) rest m.rest) in
      let c = (reads_given (reads_challenge s n (omega (arith, e, range))) (s 7)).complete 24 f.challenge
      (m.challenge, subst (λ (k : ℕ). IfGiven (λ (l : List ℕ). is_challenge k l ≡ true) f.challenge) (sym e) g.challenge) (holds_first s 24 (form_if challenge_bits f.challenge) zs hc) in
      let ha : Holds s (z1_start s) zs = subst (λ (i : ℕ). Holds s i zs) (sym c.ends) (holds_rest s 24 (form_if challenge_bits f.challenge) zs hc) in
      let a = (reads_half_if s n (s 6)).complete (z1_start s) f.z1
      (m.z1, subst (λ (k : ℕ). IfGiven (λ (l : List ℤ). is_half k l ≡ true) f.z1) (sym e) g.z1) (holds_first s (z1_start s) (form_if (joined value_bits) f.z1) (form_if (joined value_bits) f.z2) ha) in
      let b = (reads_half_if s n (s 5)).complete (z2_start s) f.z2
      (m.z2, subst (λ (k : ℕ). IfGiven (λ (l : List ℤ). is_half k l ≡ true) f.z2) (sym e) g.z2)
      (subst (λ (i : ℕ). Holds s i (form_if (joined value_bits) f.z2)) (sym a.ends) (holds_rest s (z1_start s) (form_if (joined value_bits) f.z1) (form_if (joined value_bits) f.z2) ha)) in
      record {
        map = m.others;
        fields = four_true (ap is_degree e ∙ g.degree) c.passed a.passed b.passed;
        same = same_fields f n _ _ _ e c.found a.found b.found;
        ends = ends_together (length (form_if challenge_bits f.challenge)) (length (form_if (joined value_bits) f.z1)) (length (form_if (joined value_bits) f.z2)) c.ends a.ends b.ends (length_fields f);
      }

-- ** Records

record_sound : (bytes : List ℕ) → ((k : ℕ) → get_or bytes k 0 < 256) → is_record bytes ≡ true → (is_field_set (fields_of (bit_at bytes)) ≡ true) × (record_of (fields_of (bit_at bytes)) ≡ bytes)
unfolding is_record record_of
record_sound bytes small h =
    let s = bit_at bytes in
    let t = both_true (are_fields s) _ h in
    let u = both_true (eqb (number s 0 5) 0) _ t.1 in
    let v = both_true (eqb (number s (fields_end s) 8) 0) (eqb (length bytes) (bytes_for (fields_end s))) u.1 in
    let k = fields_sound s (eqb-true (number s 0 5) 0 u.0) t.0 in
    let e : fields_end s ≡ length (field_bits (fields_of s)) = k.row.ends ∙ zero-add _ in (
      is_field_set_lem (fields_of s) k.fields,
      packed_held bytes (field_bits (fields_of s)) small k.row.holds
          (rw e at (eqb-true (number s (fields_end s) 8) 0 v.0))
          (rw e at (eqb-true (length bytes) (bytes_for (fields_end s)) v.1)),
    )

record_complete : (f : FieldSet) → is_field_set f ≡ true → (is_record (record_of f) ≡ true) × (fields_of (bit_at (record_of f)) ≡ f)
unfolding is_record record_of
record_complete f h =
    let bits = field_bits f in
    let s = bit_at (packed bits) in
    let k = fields_complete s f (storable f h) (packed_holds bits) in (
      four_true k.fields (eq-eqb (number s 0 5) 0 k.map)
          (eq-eqb (number s (fields_end s) 8) 0 (ap (λ (i : ℕ). number s i 8) k.ends ∙ packed_padding bits))
          (eq-eqb (length (packed bits)) (bytes_for (fields_end s)) (length_packed bits ∙ ap bytes_for (sym k.ends))),
      k.same,
    )

given_some : {A : Type 0} (has : Bool) (a b : A) → given has a ≡ some b → (has ≡ true) × (a ≡ b)
unfolding given
given_some true a b e = (refl, cc)
given_some false a b e = absurd (let z : ◌≡◌ {A = ℕ} 0 1 = cc in omega (arith, z))

pub records_are_bytes : RecordsAreBytes
unfolding record_of
records_are_bytes f k = packed_small (field_bits f) k

pub round_trip : RoundTrip
unfolding field_set_of given
round_trip f h = let t = record_complete f h in rw t.0 (ap some t.1)

pub just_one_record : JustOneRecord
unfolding field_set_of
just_one_record bytes f small h =
    let g = given_some (is_record bytes) (fields_of (bit_at bytes)) f h in
    subst (λ (k : FieldSet). (is_field_set k ≡ true) × (record_of k ≡ bytes)) g.1 (record_sound bytes small g.0)

pub just_one_field_set : JustOneFieldSet
just_one_field_set f g hf hg e = sym (record_complete f hf).1 ∙ ap (λ (bytes : List ℕ). fields_of (bit_at bytes)) e ∙ (record_complete g hg).1

pub records_alone : RecordsAlone
unfolding field_set_of
records_alone bytes small =
    rw (stands_given (is_record bytes) (fields_of (bit_at bytes))) (
      λ h. (fields_of (bit_at bytes), (record_sound bytes small h).0, (record_sound bytes small h).1),
      λ t. subst (λ (b : List ℕ). is_record b ≡ true) t.2 (record_complete t.0 t.1).0,
    )

pub longest_record : LongestRecord
unfolding record_of
longest_record f h =
    let g = storable f h in
    let c = challenge_most f.n f.challenge in
    let a = half_most f.n f.z1 g.z1 in
    let b = half_most f.n f.z2 g.z2 in
    omega (arith, length_packed (field_bits f), length_fields f, c, a, b)
