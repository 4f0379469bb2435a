-- What a write puts into bytes. Assumes nothing.
use mathlib.Core.Path.{◌≡◌, refl, sym, ap, ap₂, ◌∙◌}
use mathlib.Core.Bool.{Bool, true, false}
use mathlib.Core.List.{List, [], ◌∷◌, ◌++◌, append_assoc}
use Prim.Native.Nat.{ℕ, ◌+◌, ◌*◌, ◌/◌, ◌%◌, ◌^◌, ◌≤◌}
use native.Mathlib.Omega.{arith}
use borrow.Author.Tests.{le-ltb}
use lib.IntN.{ℤ, pos, negsuc, nat_abs}
use lib.ListN.{length, get_or, replicate, length-append}
use lib.Signed.{lt_z}
use mir.Syntax.{w32}
use mir.Val.{to_z, of_z, bool_byte}
use Rattle.bits.specs.Bits.{odd, digits, put_bits}
use Rattle.std.specs.Prelude.{None, Some, Option as Lent, is_some}
use Rattle.std.specs.Bool.{then_some}
use Rattle.std.specs.Option.{unwrap_or}
use mathlib.Core.Option.{Option, none, some}
use denote.Ref.{Bor}
use Rattle.bits.specs.Items.{joined, given, stands, form_if, items_of}
use Rattle.bits.proofs.Streams.{length_digits, digits_low, digits_of_low}
use Rattle.bits.proofs.Numbers.{bit_odd}
use Rattle.bits.proofs.Putting.{put_put}
use Rattle.signed.proofs.Signs.{fits_of_abs, read_back}
use Rattle.signed.proofs.Vectors.{within_at}
use Rattle.checks.proofs.Degrees.{degree_range}
use Rattle.record.specs.Record.{FieldSet, value_limit, are_small, is_field_set, negative, value_bits, challenge_bits, map_bits, field_bits}
use Rattle.record_writer.specs.Told.{lent}
use Rattle.record.proofs.FieldSets.{storable, values_most, length_challenge, form_items, half_right, few_positions}

-- ** A value

-- the sign, as code tests it
pub below_zero : (v : ℤ) → lt_z v (pos 0) ≡ negative v
below_zero (pos n) = le-ltb n 0 (omega arith)
below_zero (negsuc n) = refl

-- its sign and its low bits as one number of eight bits
first_eight : (minus : Bool) (x : ℕ) → digits 8 (128 * bool_byte minus + x % 128) ≡ minus ∷ digits 7 x
unfolding digits
first_eight minus x =
    let low : (128 * bool_byte minus + x % 128) / 128 ≡ bool_byte minus = omega arith in
    let sum : 128 * bool_byte minus + x % 128 ≡ x % 128 + bool_byte minus * 2 ^ 7 = omega arith in
    ap₂ ◌∷◌ (ap odd low ∙ bit_odd minus) (ap (digits 7) sum ∙ digits_low 7 (x % 128) (bool_byte minus) ∙ digits_of_low 7 x)

-- these, and the zeros and the one, put one after the other
pub value_put : (page : List ℕ) (at : ℕ) (v : ℤ) {p q : List ℕ} → p ≡ put_bits page at (digits 8 (128 * bool_byte (negative v) + nat_abs v % 128))
    → q ≡ put_bits p (at + 8) (replicate (nat_abs v / 128) false ++ (true ∷ []))
    → q ≡ put_bits page at (value_bits v)
unfolding value_bits
value_put page at v e f =
    let over = replicate (nat_abs v / 128) false ++ (true ∷ []) in
    let front = negative v ∷ digits 7 (nat_abs v) in
    rw (f, e, first_eight (negative v) (nat_abs v))
    (put_put page at (at + 8) front over (omega (arith, length_digits 7 (nat_abs v))))

-- ** A challenge

pub challenge_put : (page : List ℕ) (c : List ℕ) {p q : List ℕ} → p ≡ put_bits page 24 (digits 8 (length c)) → q ≡ put_bits p 32 (joined (digits 16) c)
    → q ≡ put_bits page 24 (challenge_bits c)
unfolding challenge_bits
challenge_put page c e f = rw (f, e) (put_put page 24 32 (digits 8 (length c)) (joined (digits 16) c) (omega (arith, length_digits 8 (length c))))

-- ** Values that are not too large

module _ (values : List ℤ) (right : are_small values ≡ true) (i : ℕ) where
  pub value_small : nat_abs (get_or values i (pos 0)) ≤ value_limit
  value_small = within_at value_limit values right i

  -- a value that is read from its buffer
  pub value_read : to_z w32 (of_z w32 (get_or values i (pos 0))) ≡ get_or values i (pos 0)
  value_read = read_back {w = w32} (fits_of_abs (omega (arith, value_small)))

-- ** The bit map and n

digits_map : (c a b : Bool) → digits 8 (bool_byte c + 2 * bool_byte a + 4 * bool_byte b) ≡ replicate 5 false ++ (b ∷ (a ∷ (c ∷ [])))
unfolding digits
digits_map true true true = refl
digits_map true true false = refl
digits_map true false true = refl
digits_map true false false = refl
digits_map false true true = refl
digits_map false true false = refl
digits_map false false true = refl
digits_map false false false = refl

pub header_put : (page : List ℕ) (f : FieldSet) {p q : List ℕ} {c a b : Bool} → c ≡ stands f.challenge → a ≡ stands f.z1 → b ≡ stands f.z2
    → p ≡ put_bits page 0 (digits 8 (bool_byte c + 2 * bool_byte a + 4 * bool_byte b)) → q ≡ put_bits p 8 (digits 16 f.n)
    → q ≡ put_bits page 0 (map_bits f ++ digits 16 f.n)
unfolding map_bits
header_put page f ec ea eb e g =
    rw (g, e, ec, ea, eb, digits_map (stands f.challenge) (stands f.z1) (stands f.z2))
    (put_put page 0 8 (replicate 5 false ++ (stands f.z2 ∷ (stands f.z1 ∷ (stands f.challenge ∷ [])))) (digits 16 f.n) refl)

-- ** What is lent

pub stands_lent : {A : Type 0} (a : Lent (Bor A)) → is_some a ≡ stands (lent a)
unfolding stands
stands_lent None = refl
stands_lent (Some a) = refl

pub items_lent : {A : Type 0} (a : Lent (Bor (List A))) (d : Bor (List A)) → d.now ≡ [] → (unwrap_or a d).now ≡ items_of (lent a)
unfolding items_of
items_lent None d e = e
items_lent (Some a) d e = refl

pub given_lent : {A : Type 0} (has : Bool) (a : Bor A) → lent (then_some has a) ≡ given has a.now
unfolding given
given_lent true a = refl
given_lent false a = refl

-- ** All fields

-- a challenge of at most 64 positions, or none
challenge_short : (c : Option (List ℕ)) → length (items_of c) ≤ 64 → length (form_if challenge_bits c) ≤ 1032
unfolding form_if items_of
challenge_short (some c) few = omega (arith, length_challenge c, few)
challenge_short none few = omega arith

module _ (f : FieldSet) where
  abbrev pub header : List Bool
  header = map_bits f ++ digits 16 f.n

  abbrev pub c_bits : List Bool
  c_bits = form_if challenge_bits f.challenge

  abbrev pub a_bits : List Bool
  a_bits = joined value_bits (items_of f.z1)

  abbrev pub b_bits : List Bool
  b_bits = joined value_bits (items_of f.z2)

  field_parts : header ++ (c_bits ++ (a_bits ++ b_bits)) ≡ field_bits f
  unfolding field_bits
  field_parts = rw (form_items value_bits f.z1, form_items value_bits f.z2) (append_assoc (map_bits f) (digits 16 f.n) (c_bits ++ (a_bits ++ b_bits)))

  length_header : length header ≡ 24
  unfolding map_bits
  length_header = simp length_digits

  pub fields_length : length (field_bits f) ≡ 24 + (length c_bits + (length a_bits + length b_bits))
  fields_length = ap length (sym field_parts) ∙ omega (arith, length-append header (c_bits ++ (a_bits ++ b_bits)), length_header, length-append c_bits (a_bits ++ b_bits), length-append a_bits b_bits)

  pub fields_put : (page : List ℕ) {p q r t : List ℕ} {i j : ℕ} → p ≡ put_bits page 0 header → q ≡ put_bits p 24 c_bits → i ≡ 24 + length c_bits → r ≡ put_bits q i a_bits → j ≡ i + length a_bits → t ≡ put_bits r j b_bits
      → t ≡ put_bits page 0 (field_bits f)
  fields_put page {p = p} {q = q} {i = i} {j = j} ep eq ei er ej et =
      et
      ∙ ap (λ (l : List ℕ). put_bits l j b_bits) er
      ∙ put_put q i j a_bits b_bits ej
      ∙ ap (λ (l : List ℕ). put_bits l i (a_bits ++ b_bits)) eq
      ∙ put_put p 24 i c_bits (a_bits ++ b_bits) ei
      ∙ ap (λ (l : List ℕ). put_bits l 24 (c_bits ++ (a_bits ++ b_bits))) ep
      ∙ put_put page 0 24 header (c_bits ++ (a_bits ++ b_bits)) (omega (arith, length_header))
      ∙ ap (put_bits page 0) field_parts

  -- what is known of fields that can be stored
  pub record Known : Type 0 where
    pub degree : f.n ≤ 1024
    pub few : length (items_of f.challenge) ≤ 64
    pub z1_right : are_small (items_of f.z1) ≡ true
    pub z1_short : length (items_of f.z1) ≤ 1024
    pub z2_right : are_small (items_of f.z2) ≡ true
    pub z2_short : length (items_of f.z2) ≤ 1024
    pub c_most : length c_bits ≤ 1032
    pub a_most : length a_bits ≤ 34816
    pub b_most : length b_bits ≤ 34816

  pub known : is_field_set f ≡ true → Known
  known h =
      let s = storable f h in
      let d = degree_range f.n s.degree in
      let a = half_right f.n f.z1 s.z1 in
      let b = half_right f.n f.z2 s.z2 in
      let few = few_positions f.n f.challenge s.challenge in
      record {
        degree = d.1;
        few = few;
        z1_right = a.0;
        z1_short = omega (arith, d, a.1);
        z2_right = b.0;
        z2_short = omega (arith, d, b.1);
        c_most = challenge_short f.challenge few;
        a_most = omega (arith, d, a.1, values_most (items_of f.z1) a.0);
        b_most = omega (arith, d, b.1, values_most (items_of f.z2) b.0);
      }
