-- What is known of a field set. Assumes nothing.
use mathlib.Core.Path.{◌≡◌, refl, ap, ◌∙◌}
use mathlib.Core.Bool.{Bool, true, false}
use mathlib.Core.List.{List, [], ◌∷◌}
use mathlib.Core.Option.{Option, none, some}
use Prim.Native.Nat.{ℕ, ◌+◌, ◌*◌, ◌/◌, ◌≤◌}
use native.Mathlib.Omega.{arith}
use borrow.Author.Tests.{eqb-true}
use lib.Dec.{eqb}
use lib.IntN.{ℤ, nat_abs}
use lib.ListN.{length, length-append, length-replicate}
use Rattle.bits.specs.Bits.{digits}
use Rattle.bits.specs.Items.{joined, given, stands, form_if, passes, items_of}
use Rattle.bits.proofs.Streams.{length_digits}
use Rattle.bits.proofs.Reading.{IfGiven}
use Rattle.checks.specs.Checks.{is_degree}
use Rattle.checks.proofs.JoinedTests.{both_true}
use Rattle.signed.specs.Vectors.{all_within}
use Rattle.signed.proofs.Vectors.{within_none, within_parts}
use Rattle.challenge.specs.Challenge.{is_challenge}
use Rattle.challenge.proofs.Positions.{challenge_of}
use Rattle.record.specs.Record.{FieldSet, value_limit, is_half, is_field_set, value_bits, challenge_bits, map_bits, field_bits}

-- ** Tests of what may be missing

passes_good : {A : Type 0} (test : A → Bool) (a : Option A) → IfGiven (λ (b : A). test b ≡ true) a → passes test a ≡ true
unfolding passes
passes_good test none g = refl
passes_good test (some a) g = g

good_passes : {A : Type 0} (test : A → Bool) (a : Option A) → passes test a ≡ true → IfGiven (λ (b : A). test b ≡ true) a
unfolding passes
good_passes test none h = tt
good_passes test (some a) h = h

-- what is known of a field set
pub record Storable (f : FieldSet) : Type 0 where
  pub degree : is_degree f.n ≡ true
  pub challenge : IfGiven (λ (c : List ℕ). is_challenge f.n c ≡ true) f.challenge
  pub z1 : IfGiven (λ (z : List ℤ). is_half f.n z ≡ true) f.z1
  pub z2 : IfGiven (λ (z : List ℤ). is_half f.n z ≡ true) f.z2

pub storable : (f : FieldSet) → is_field_set f ≡ true → Storable f
unfolding is_field_set
storable f h =
    let t = both_true (is_degree f.n) _ h in
    let u = both_true (passes (is_challenge f.n) f.challenge) _ t.1 in
    let v = both_true (passes (is_half f.n) f.z1) (passes (is_half f.n) f.z2) u.1 in
    record {
      degree = t.0;
      challenge = good_passes (is_challenge f.n) f.challenge u.0;
      z1 = good_passes (is_half f.n) f.z1 v.0;
      z2 = good_passes (is_half f.n) f.z2 v.1;
    }

pub is_field_set_lem : (f : FieldSet) → Storable f → is_field_set f ≡ true
unfolding is_field_set
is_field_set_lem f g =
    rw (g.degree, passes_good (is_challenge f.n) f.challenge g.challenge, passes_good (is_half f.n) f.z1 g.z1)
    (passes_good (is_half f.n) f.z2 g.z2)

-- ** Their bits

pub length_fields : (f : FieldSet) → length (field_bits f) ≡ 24 + (length (form_if challenge_bits f.challenge) + (length (form_if (joined value_bits) f.z1) + length (form_if (joined value_bits) f.z2)))
unfolding field_bits map_bits
length_fields f = simp (length-append, length_digits) (omega arith)

pub length_value : (v : ℤ) → length (value_bits v) ≡ 9 + nat_abs v / 128
unfolding value_bits
length_value v = simp (length-append, length_digits, length-replicate) (omega arith)

-- a value takes at most 34 bits
pub values_most : (z : List ℤ) → all_within value_limit z ≡ true → length (joined value_bits z) ≤ 34 * length z
unfolding joined
values_most [] h = omega arith
values_most (v ∷ z) h =
    let t = within_parts value_limit v z h in
    omega (arith, length-append (value_bits v) (joined value_bits z), length_value v, t.0, values_most z t.1)

pub length_positions : (c : List ℕ) → length (joined (digits 16) c) ≡ 16 * length c
unfolding joined
length_positions [] = omega arith
length_positions (p ∷ c) = omega (arith, length-append (digits 16 p) (joined (digits 16) c), length_digits 16 p, length_positions c)

pub length_challenge : (c : List ℕ) → length (challenge_bits c) ≡ 8 + 16 * length c
unfolding challenge_bits
length_challenge c =
    length-append (digits 8 (length c)) (joined (digits 16) c) ∙ rw (length_digits 8 (length c), length_positions c)

-- a list that is missing has no items
pub form_items : {A : Type 0} (form : A → List Bool) (a : Option (List A)) → form_if (joined form) a ≡ joined form (items_of a)
unfolding form_if items_of joined
form_items form none = refl
form_items form (some a) = refl

pub stands_given : {A : Type 0} (has : Bool) (a : A) → stands (given has a) ≡ has
unfolding stands given
stands_given true a = refl
stands_given false a = refl

-- ** What is given is right

pub half_right : (n : ℕ) (z : Option (List ℤ)) → IfGiven (λ (l : List ℤ). is_half n l ≡ true) z → (all_within value_limit (items_of z) ≡ true) × (length (items_of z) ≤ n)
unfolding items_of
half_right n none h = (within_none value_limit, omega arith)
half_right n (some z) h =
    let t = both_true (eqb (length z) n) (all_within value_limit z) h in
    (t.1, omega (arith, eqb-true (length z) n t.0))

pub few_positions : (n : ℕ) (c : Option (List ℕ)) → IfGiven (λ (l : List ℕ). is_challenge n l ≡ true) c → length (items_of c) ≤ 64
unfolding items_of
few_positions n none h = omega arith
few_positions n (some c) h = (challenge_of n c h).few

-- ** The most bits of what may be missing

pub challenge_most : (n : ℕ) (c : Option (List ℕ)) → length (form_if challenge_bits c) ≤ 8 + 16 * length (items_of c)
unfolding form_if items_of
challenge_most n none = omega arith
challenge_most n (some c) = omega (arith, length_challenge c)

pub half_most : (n : ℕ) (z : Option (List ℤ)) → IfGiven (λ (l : List ℤ). is_half n l ≡ true) z → length (form_if (joined value_bits) z) ≤ 34 * n
half_most n z h =
    let t = half_right n z h in
    omega (arith, ap length (form_items value_bits z), values_most (items_of z) t.0, t.1)
