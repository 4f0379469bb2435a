-- Bits put into bytes one after the other are packed. Assumes nothing.
use mathlib.Core.Path.{◌≡◌, refl, sym, ap, ap₂, ◌∙◌}
use mathlib.Core.Bool.{Bool, true, false}
use mathlib.Core.List.{List, [], ◌∷◌, ◌++◌, append_assoc, append-nil}
use Prim.Native.Nat.{ℕ, zero, suc, ◌+◌, ◌-◌, ◌*◌, ◌/◌, ◌%◌, ◌^◌, ◌≤◌, ◌<◌}
use native.Mathlib.Nat.{add-zero, zero-add, suc-add, add_comm, add-mul, zero-mul, mul_assoc, mod-one, mod-lt, mod-eq_of_lt, div-eq_of_lt, pow-suc}
use native.Mathlib.Numerals.{add-one, one-add}
use native.Mathlib.Omega.{arith}
use lib.Arith.{lt_of_le-ne}
use lib.Pow.{pow-add, shl-shr, shr-shr, shr_mod, split, mod-pow-add}
use lib.Dec.{eqb, ltb, lit<}
use lib.ListN.{length, get_or, set, drop, replicate, drop_of_length-le, length-set, length-append, get_or-append, get_or-eq_default}
use lib.Seq.{drop-cons, ext_get_or, set-set, set-get_or, get_or-set_same, get_or-set_other, get_or-append_seam}
use borrow.Author.Tests.{eqb-true, eqb-false, ltb-true, ltb-false}
use mir.Val.{bool_byte}
use Rattle.bits.specs.Items.{joined}
use Rattle.bits.specs.Bits.{odd, digits, number, stream_of, bytes_for, bytes_from, packed, put_bit, put_bits}
use Rattle.bits.proofs.Numbers.{odd_digit, power_positive, number_below, number_split, number_same, number_zero}
use Rattle.bits.proofs.Streams.{length_digits}
use Rattle.bits.proofs.Packing.{length_bytes, byte_at}

-- ** One after the other

pub length_put_bit : (bytes : List ℕ) (i : ℕ) (b : Bool) → length (put_bit bytes i b) ≡ length bytes
unfolding put_bit
length_put_bit bytes i b = length-set bytes (i / 8) _

pub length_put : (bytes : List ℕ) (at : ℕ) (bits : List Bool) → length (put_bits bytes at bits) ≡ length bytes
unfolding put_bits
length_put bytes at [] = refl
length_put bytes at (b ∷ bits) = length_put (put_bit bytes at b) (suc at) bits ∙ length_put_bit bytes at b

pub put_put : (bytes : List ℕ) (at end : ℕ) (xs ys : List Bool) → end ≡ at + length xs → put_bits (put_bits bytes at xs) end ys ≡ put_bits bytes at (xs ++ ys)
unfolding put_bits
put_put bytes at end [] ys e = ap (λ (i : ℕ). put_bits bytes i ys) (e ∙ add-zero at)
put_put bytes at end (b ∷ xs) ys e = put_put (put_bit bytes at b) (suc at) end xs ys (omega (arith, e))

-- ** Numbers, byte by byte

-- the first bits of a number, and the others
pub digits_split : (a b x : ℕ) → digits (a + b) x ≡ digits a (x / 2 ^ b) ++ digits b x
unfolding digits
digits_split zero b x = rw (zero-add b)
digits_split (suc a) b x =
    let e : x / 2 ^ (a + b) ≡ x / 2 ^ b / 2 ^ a = ap (λ (w : ℕ). x / 2 ^ w) (add_comm a b) ∙ sym (shr-shr x b a) in
    rw (suc-add a b, e) (ap (λ (l : List Bool). odd (x / 2 ^ b / 2 ^ a) ∷ l) (digits_split a b x))

-- a number put in two parts
pub put_parts : (page : List ℕ) (at a b x : ℕ) {p q : List ℕ} → p ≡ put_bits page at (digits a (x / 2 ^ b)) → q ≡ put_bits p (at + a) (digits b x)
    → q ≡ put_bits page at (digits (a + b) x)
put_parts page at a b x e f =
    f
    ∙ ap (λ (l : List ℕ). put_bits l (at + a) (digits b x)) e
    ∙ put_put page at (at + a) (digits a (x / 2 ^ b)) (digits b x) (ap (λ (l : ℕ). at + l) (sym (length_digits a (x / 2 ^ b))))
    ∙ ap (put_bits page at) (sym (digits_split a b x))

-- what a byte becomes by one bit, and by those behind it
byte_sum : (b d y w t : ℕ) → ((b + d * 2 ^ (w + t)) % 256 + y * 2 ^ t) % 256 ≡ (b + (d * 2 ^ w + y) * 2 ^ t) % 256
byte_sum b d y w t =
    let e : (d * 2 ^ w + y) * 2 ^ t ≡ d * 2 ^ (w + t) + y * 2 ^ t = add-mul (d * 2 ^ w) y (2 ^ t) ∙ ap (λ (x : ℕ). x + y * 2 ^ t) (mul_assoc d (2 ^ w) (2 ^ t) ∙ ap (λ (x : ℕ). d * x) (sym (pow-add 2 w t))) in
    rw e (sums b (d * 2 ^ (w + t)) (y * 2 ^ t))
  where
    sums : (a p q : ℕ) → ((a + p) % 256 + q) % 256 ≡ (a + (p + q)) % 256
    sums a p q = omega arith

-- bits within one byte are added to it
pub put_in_byte : (bytes : List ℕ) (k r w t x : ℕ) → k < length bytes → get_or bytes k 0 < 256 → r + w + t ≡ 8
    → put_bits bytes (8 * k + r) (digits w x) ≡ set bytes k ((get_or bytes k 0 + x % 2 ^ w * 2 ^ t) % 256)
unfolding put_bits put_bit digits
put_in_byte bytes k r zero t x l small e =
    let b : (get_or bytes k 0 + x % 1 * 2 ^ t) % 256 ≡ get_or bytes k 0 = rw (mod-one x) (omega (arith, small)) in
    rw b (sym (set-get_or bytes k 0))
put_in_byte bytes k r (suc w) t x l small e =
    let d = x / 2 ^ w % 2 in
    let byte : (8 * k + r) / 8 ≡ k = omega (arith, e) in
    let weight : 7 - (8 * k + r) % 8 ≡ w + t = omega (arith, e) in
    let more = (get_or bytes k 0 + d * 2 ^ (w + t)) % 256 in
    let one : put_bit bytes (8 * k + r) (odd (x / 2 ^ w)) ≡ set bytes k more = rw (byte, weight, odd_digit (x / 2 ^ w)) in
    let now : get_or (set bytes k more) k 0 ≡ more = get_or-set_same bytes k more 0 l in
    let low : x % 2 ^ suc w ≡ d * 2 ^ w + x % 2 ^ w = ap (λ (m : ℕ). x % 2 ^ m) (sym (one-add w)) ∙ mod-pow-add x 1 w in
    let next : suc (8 * k + r) ≡ 8 * k + suc r = omega arith in
    let rest = put_in_byte (set bytes k more) k (suc r) w t x (rw (length-set bytes k more) l) (rw now (mod-lt _ (lit< tt))) (omega (arith, e)) in
    ap₂ (λ (page : List ℕ) (i : ℕ). put_bits page i (digits w x)) one next
    ∙ rest
    ∙ set-set bytes k more _
    ∙ ap (set bytes k) (rw (now, low) (byte_sum (get_or bytes k 0) d (x % 2 ^ w) w t))

-- ** Bits within a byte, as code adds them to it

module _ (bytes : List ℕ) (k : ℕ) (l : k < length bytes) (small : get_or bytes k 0 < 256) where
  abbrev plus : ℕ → List ℕ
  plus x = set bytes k ((get_or bytes k 0 + x) % 256)

  -- all eight
  pub add_all : (x : ℕ) → plus (x % 256) ≡ put_bits bytes (8 * k) (digits 8 x)
  add_all x =
      let e : x % 256 ≡ x % 2 ^ 8 * 2 ^ 0 = omega arith in
      ap plus e ∙ sym (put_in_byte bytes k 0 8 0 x l small refl) ∙ ap (λ (i : ℕ). put_bits bytes i (digits 8 x)) (add-zero (8 * k))

  -- of eight bits those that the byte still takes, behind r others
  pub add_first : (r x : ℕ) → r ≤ 8 → x < 256 → plus (x / 2 ^ r) ≡ put_bits bytes (8 * k + r) (digits (8 - r) (x / 2 ^ r))
  add_first r x h below =
      let wide : 8 ≡ 8 - r + r = omega arith in
      let e : x / 2 ^ r ≡ x / 2 ^ r % 2 ^ (8 - r) * 2 ^ 0 = rw (shr_mod {n = x} (8 - r) r (rw (← wide) below)) (omega arith) in
      ap plus e ∙ sym (put_in_byte bytes k r (8 - r) 0 (x / 2 ^ r) l small (omega arith))

  -- and the last r, which the next byte begins with
  pub add_last : (r x : ℕ) → r ≤ 8 → plus (x * 2 ^ (8 - r)) ≡ put_bits bytes (8 * k) (digits r x)
  add_last r x h =
      let high = x / 2 ^ r in
      let low = x % 2 ^ r in
      let eight : r + (8 - r) ≡ 8 = omega arith in
      let wide : 2 ^ r * 2 ^ (8 - r) ≡ 256 = sym (pow-add 2 r (8 - r)) ∙ ap (λ (w : ℕ). 2 ^ w) eight in
      let parts : x * 2 ^ (8 - r) ≡ high * 256 + low * 2 ^ (8 - r) =
      ap (λ (y : ℕ). y * 2 ^ (8 - r)) (sym (split x r))
      ∙ add-mul (high * 2 ^ r) low (2 ^ (8 - r))
      ∙ ap (λ (y : ℕ). y + low * 2 ^ (8 - r)) (mul_assoc high (2 ^ r) (2 ^ (8 - r)) ∙ ap (λ (y : ℕ). high * y) wide) in
      ap (set bytes k) (over (get_or bytes k 0) high (low * 2 ^ (8 - r)) parts)
      ∙ sym (put_in_byte bytes k 0 r (8 - r) x l small (omega arith))
      ∙ ap (λ (i : ℕ). put_bits bytes i (digits r x)) (add-zero (8 * k))
    where
      over : (b q y : ℕ) {z : ℕ} → z ≡ q * 256 + y → (b + z) % 256 ≡ (b + y) % 256
      over b q y e = omega (arith, e)

  -- a one, behind r others
  pub add_one_bit : (r : ℕ) → r < 8 → plus (128 / 2 ^ r) ≡ put_bits bytes (8 * k + r) (true ∷ [])
  unfolding digits
  add_one_bit r h =
      let seven : 7 ≡ 7 - r + r = omega arith in
      let wide : 128 ≡ 2 ^ (7 - r) * 2 ^ r = ap (λ (w : ℕ). 2 ^ w) seven ∙ pow-add 2 (7 - r) r in
      let e : 128 / 2 ^ r ≡ 1 % 2 ^ 1 * 2 ^ (7 - r) = ap (λ (y : ℕ). y / 2 ^ r) wide ∙ shl-shr (2 ^ (7 - r)) r ∙ omega arith in
      ap plus e ∙ sym (put_in_byte bytes k r 1 (7 - r) 1 l small (omega arith))

-- zeros change nothing
pub put_zeros : (bytes : List ℕ) (at z : ℕ) (bits : List Bool) → ((k : ℕ) → get_or bytes k 0 < 256)
    → put_bits bytes at (replicate z false ++ bits) ≡ put_bits bytes (at + z) bits
unfolding put_bits put_bit
put_zeros bytes at zero bits small = rw (add-zero at)
put_zeros bytes at (suc z) bits small =
    let b : (get_or bytes (at / 8) 0 + 0 * 2 ^ (7 - at % 8)) % 256 ≡ get_or bytes (at / 8) 0 = rw (zero-mul (2 ^ (7 - at % 8))) (omega (arith, small (at / 8))) in
    let same : put_bit bytes at false ≡ bytes = rw b (set-get_or bytes (at / 8) 0) in
    let next : suc at + z ≡ at + suc z = omega arith in
    ap (λ (page : List ℕ). put_bits page (suc at) (replicate z false ++ bits)) same
    ∙ put_zeros bytes (suc at) z bits small
    ∙ ap (λ (i : ℕ). put_bits bytes i bits) next

-- ** Packed

module _ (s t : ℕ → Bool) (i : ℕ) (b : Bool) (was : s i ≡ false) (is : t i ≡ b) (same : (j : ℕ) → (j ≡ i → ⊥) → s j ≡ t j) where
  number_put : (at j r : ℕ) → at + j ≡ i → number s at (suc j + r) + bool_byte b * 2 ^ r ≡ number t at (suc j + r)
  unfolding number
  number_put at j r e =
      let front : number s at j ≡ number t at j = number_same s t at at j (λ k l. same (at + k) (λ f. omega (arith, e, f))) in
      let back : number s (at + suc j) r ≡ number t (at + suc j) r = number_same s t (at + suc j) (at + suc j) r (λ k l. same (at + suc j + k) (λ f. omega (arith, e, f))) in
      let was_at : s (at + j) ≡ false = ap s e ∙ was in
      let is_at : t (at + j) ≡ b = ap t e ∙ is in
      rw (number_split s at (suc j) r, number_split t at (suc j) r, was_at, is_at, front, back) (omega arith)

  byte_put : (count : ℕ) → i < 8 * count → (get_or (bytes_from s 0 count) (i / 8) 0 + bool_byte b * 2 ^ (7 - i % 8)) % 256 ≡ number t (8 * (0 + i / 8)) 8
  byte_put count l =
      let at = 8 * (0 + i / 8) in
      let w : suc (i % 8) + (7 - i % 8) ≡ 8 = omega arith in
      let sum : number s at 8 + bool_byte b * 2 ^ (7 - i % 8) ≡ number t at 8 = rw w at (number_put at (i % 8) (7 - i % 8) (omega arith)) in
      rw (byte_at s 0 count (i / 8) (omega arith), sum) (mod-eq_of_lt (number_below t at 8))

  put_in_bytes : (count : ℕ) → i < 8 * count → put_bit (bytes_from s 0 count) i b ≡ bytes_from t 0 count
  unfolding put_bit
  put_in_bytes count l =
      let long : length (put_bit (bytes_from s 0 count) i b) ≡ count = length_put_bit (bytes_from s 0 count) i b ∙ length_bytes s 0 count in
      ext_get_or 0 (put_bit (bytes_from s 0 count) i b) (bytes_from t 0 count) (long ∙ sym (length_bytes t 0 count)) (λ k h. at k (omega (arith, long)) (eqb k (i / 8)) refl)
    where
      at : (k : ℕ) → k < count → (e : Bool) → eqb k (i / 8) ≡ e → get_or (put_bit (bytes_from s 0 count) i b) k 0 ≡ get_or (bytes_from t 0 count) k 0
      at k h true e =
          let f = eqb-true k (i / 8) e in
          rw (byte_at t 0 count k h, f)
          (get_or-set_same (bytes_from s 0 count) (i / 8) _ 0 (omega (arith, length_bytes s 0 count)) ∙ byte_put count l)
      at k h false e =
          get_or-set_other (bytes_from s 0 count) (i / 8) k _ 0 (eqb-false k (i / 8) e)
          ∙ byte_at s 0 count k h
          ∙ number_same s t (8 * (0 + k)) (8 * (0 + k)) 8 (λ j g. same (8 * (0 + k) + j) (λ f. eqb-false k (i / 8) e (omega (arith, f))))
          ∙ sym (byte_at t 0 count k h)

put_one : (count : ℕ) (bits : List Bool) (b : Bool) → length bits < 8 * count → put_bit (bytes_from (stream_of bits) 0 count) (length bits) b ≡ bytes_from (stream_of (bits ++ (b ∷ []))) 0 count
put_one count bits b l =
    put_in_bytes (stream_of bits) (stream_of (bits ++ (b ∷ []))) (length bits) b
    (get_or-eq_default bits false {n = length bits} (omega arith))
    (get_or-append_seam bits b [] false)
    (λ j h. others j h (ltb j (length bits)) refl)
    count l
  where
    others : (j : ℕ) → (j ≡ length bits → ⊥) → (e : Bool) → ltb j (length bits) ≡ e → stream_of bits j ≡ stream_of (bits ++ (b ∷ [])) j
    others j h true e = sym (get_or-append bits (b ∷ []) false j (ltb-true j (length bits) e))
    others j h false e =
        let g = ltb-false j (length bits) e in
        get_or-eq_default bits false {n = j} g
        ∙ sym (get_or-eq_default (bits ++ (b ∷ [])) false {n = j} (rw (length-append bits (b ∷ []), add-one (length bits)) (lt_of_le-ne g (λ f. h (sym f)))))

put_more : (count : ℕ) (xs ys : List Bool) → length xs + length ys ≤ 8 * count → put_bits (bytes_from (stream_of xs) 0 count) (length xs) ys ≡ bytes_from (stream_of (xs ++ ys)) 0 count
unfolding put_bits
put_more count xs [] l = ap (λ (bits : List Bool). bytes_from (stream_of bits) 0 count) (sym (append-nil xs))
put_more count xs (b ∷ ys) l =
    let e : suc (length xs) ≡ length (xs ++ (b ∷ [])) = sym (length-append xs (b ∷ []) ∙ omega arith) in
    rw (put_one count xs b (omega arith), e)
    (put_more count (xs ++ (b ∷ [])) ys (omega (arith, l, e)) ∙ ap (λ (bits : List Bool). bytes_from (stream_of bits) 0 count) (append_assoc xs (b ∷ []) ys))

blank : (k count : ℕ) → replicate count 0 ≡ bytes_from (stream_of []) k count
unfolding bytes_from
blank k zero = refl
blank k (suc count) = ap₂ ◌∷◌ (sym (number_zero (stream_of []) (8 * k) 8 (λ i l. refl))) (blank (suc k) count)

-- all bits of a list, put into zeros
pub put_packed : (bits : List Bool) → put_bits (replicate (bytes_for (length bits)) 0) 0 bits ≡ packed bits
unfolding packed
put_packed bits = rw (blank 0 (bytes_for (length bits))) (put_more (bytes_for (length bits)) [] bits (omega arith))

-- ** Small numbers

pub digits_bit : (b : Bool) → digits 1 (bool_byte b) ≡ b ∷ []
unfolding digits
digits_bit true = refl
digits_bit false = refl

-- zeros and a one are the number 1
pub digits_one : (k : ℕ) → digits (suc k) 1 ≡ replicate k false ++ (true ∷ [])
unfolding digits
digits_one zero = refl
digits_one (suc k) =
    let e : 1 / 2 ^ suc k ≡ 0 = div-eq_of_lt (rw (pow-suc 2 k) (omega (arith, power_positive k))) in
    rw e (ap (λ (l : List Bool). false ∷ l) (digits_one k))

-- ** A loop over items: i of them are put, and the others are to be put from a place on

module _ {A : Type 0} (form : A → List Bool) (items : List A) where
  -- the forms of the items from i on
  abbrev pub forms_from : (i : ℕ) → List Bool
  forms_from i = joined form (drop i items)

  forms_next : (d : A) (i : ℕ) → i < length items → forms_from i ≡ form (get_or items i d) ++ forms_from (i + 1)
  unfolding joined
  forms_next d i l = rw (add-one i, drop-cons items i d)

  forms_over : (i : ℕ) → length items ≤ i → forms_from i ≡ []
  unfolding joined
  forms_over i l = rw (drop_of_length-le items {i = i} l)

  pub forms_length : (d : A) (i : ℕ) → i < length items → length (forms_from i) ≡ length (form (get_or items i d)) + length (forms_from (i + 1))
  forms_length d i l = ap length (forms_next d i l) ∙ length-append (form (get_or items i d)) (forms_from (i + 1))

  pub no_forms_left : (i : ℕ) → length items ≤ i → length (forms_from i) ≡ 0
  no_forms_left i l = ap length (forms_over i l)

  module _ (page : List ℕ) (at : ℕ) where
    pub record Putting (now : List ℕ) (place i : ℕ) : Type 0 where
      pub long : length now ≡ length page
      pub ends : place + length (forms_from i) ≡ at + length (joined form items)
      pub all : put_bits now place (forms_from i) ≡ put_bits page at (joined form items)

    pub putting_step : (d : A) {now next : List ℕ} {place end i : ℕ} → i < length items → next ≡ put_bits now place (form (get_or items i d)) → end ≡ place + length (form (get_or items i d))
        → Putting now place i → Putting next end (i + 1)
    putting_step d {now = now} {place = place} {end = end} {i = i} l e f p =
        record {
          long = ap length e ∙ length_put now place (form (get_or items i d)) ∙ p.long;
          ends = omega (arith, f, forms_length d i l, p.ends);
          all = rw e (put_put now place end (form (get_or items i d)) (forms_from (i + 1)) f) ∙ ap (put_bits now place) (sym (forms_next d i l)) ∙ p.all;
        }

    pub putting_end : {now : List ℕ} {place i : ℕ} → length items ≤ i → Putting now place i → (place ≡ at + length (joined form items)) × (now ≡ put_bits page at (joined form items))
    unfolding put_bits
    putting_end {i = i} l p = (omega (arith, p.ends, no_forms_left i l), rw (forms_over i l) at p.all)
