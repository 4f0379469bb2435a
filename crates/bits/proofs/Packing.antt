-- Bits packed in bytes, and read off them. Assumes nothing.
use mathlib.Core.Path.{◌≡◌, refl, sym, ap, ap₂, ◌∙◌}
use mathlib.Core.Bool.{Bool, true, false}
use mathlib.Core.List.{List}
use Prim.Native.Nat.{ℕ, zero, suc, ◌+◌, ◌-◌, ◌*◌, ◌/◌, ◌%◌, ◌^◌, ◌≤◌, ◌<◌}
use native.Mathlib.Nat.{add-zero, add-suc, suc-add, zero-add, zero-div, mod-eq_of_lt, not-suc-le-zero, le_of_suc-le-suc}
use native.Mathlib.Omega.{arith}
use lib.Dec.{ltb, lit<}
use borrow.Author.Tests.{ltb-true, ltb-false}
use lib.ListN.{length, get_or, get_or-eq_default, drop}
use Rattle.std.proofs.lemmas.List.{get_or-drop}
use lib.Seq.{ext_get_or}
use Rattle.std.specs.Int.{w64, from_be_bytes}
use Rattle.bits.specs.Bits.{odd, number, bit_at, stream_of, bytes_for, bytes_from, packed}
use Rattle.bits.proofs.Numbers.{number_below, number_split, number_bit, number_same, number_zero, zero_number}
use Rattle.bits.proofs.Streams.{Holds, holds_at, holds_of, holds_digits, number_holds}

-- ** Bytes of a stream

pub length_bytes : (s : ℕ → Bool) (k count : ℕ) → length (bytes_from s k count) ≡ count
unfolding bytes_from
length_bytes s k zero = refl
length_bytes s k (suc count) = ap suc (length_bytes s (suc k) count)

pub byte_at : (s : ℕ → Bool) (k count i : ℕ) → i < count → get_or (bytes_from s k count) i 0 ≡ number s (8 * (k + i)) 8
unfolding bytes_from
byte_at s k zero i l = absurd (not-suc-le-zero l)
byte_at s k (suc count) zero l = rw (add-zero k)
byte_at s k (suc count) (suc i) l = rw (add-suc k i, ← suc-add k i) (byte_at s (suc k) count i (le_of_suc-le-suc l))

-- the bits of the bytes are those of the stream
bit_of_bytes : (s : ℕ → Bool) (count i : ℕ) → i < 8 * count → bit_at (bytes_from s 0 count) i ≡ s i
unfolding bit_at
bit_of_bytes s count i l =
    let e : suc (i % 8) + (7 - i % 8) ≡ 8 = omega arith in
    let f : 8 * (0 + i / 8) + i % 8 ≡ i = omega arith in
    rw (byte_at s 0 count (i / 8) (omega arith))
    (ap (λ (w : ℕ). odd (number s (8 * (0 + i / 8)) w / 2 ^ (7 - i % 8))) (sym e) ∙ number_bit s (8 * (0 + i / 8)) (i % 8) (7 - i % 8) ∙ ap s f)

pub no_bit_behind : (bytes : List ℕ) (i : ℕ) → 8 * length bytes ≤ i → bit_at bytes i ≡ false
unfolding bit_at
no_bit_behind bytes i l = rw (get_or-eq_default bytes 0 {n = i / 8} (omega arith), zero-div (2 ^ (7 - i % 8)))

-- ** Packed bits

pub length_packed : (bits : List Bool) → length (packed bits) ≡ bytes_for (length bits)
unfolding packed
length_packed bits = length_bytes (stream_of bits) 0 (bytes_for (length bits))

pub packed_small : (bits : List Bool) (k : ℕ) → get_or (packed bits) k 0 < 2 ^ 8
unfolding packed
packed_small bits k = by (bytes_for (length bits)) (ltb k (bytes_for (length bits))) refl
  where
    by : (count : ℕ) (b : Bool) → ltb k count ≡ b → get_or (bytes_from (stream_of bits) 0 count) k 0 < 2 ^ 8
    by count true h = rw (byte_at (stream_of bits) 0 count k (ltb-true k count h)) (number_below (stream_of bits) (8 * (0 + k)) 8)
    by count false h =
        let g = ltb-false k count h in
        rw (get_or-eq_default (bytes_from (stream_of bits) 0 count) 0 {n = k} (rw (length_bytes (stream_of bits) 0 count) g)) (lit< tt)

-- they are read off again
pub packed_bit : (bits : List Bool) (i : ℕ) → bit_at (packed bits) i ≡ stream_of bits i
unfolding packed
packed_bit bits i = by (bytes_for (length bits)) refl (ltb i (8 * bytes_for (length bits))) refl
  where
    by : (count : ℕ) → count ≡ bytes_for (length bits) → (b : Bool) → ltb i (8 * count) ≡ b → bit_at (bytes_from (stream_of bits) 0 count) i ≡ stream_of bits i
    by count e true h = bit_of_bytes (stream_of bits) count i (ltb-true i (8 * count) h)
    by count e false h =
        let g = ltb-false i (8 * count) h in
        no_bit_behind (bytes_from (stream_of bits) 0 count) i (rw (length_bytes (stream_of bits) 0 count) g) ∙ sym (get_or-eq_default bits false {n = i} (omega arith))

-- a byte is the number of its bits
pub byte_number : (bytes : List ℕ) (k : ℕ) → get_or bytes k 0 < 256 → number (bit_at bytes) (8 * k) 8 ≡ get_or bytes k 0
unfolding bit_at
byte_number bytes k small = number_holds (bit_at bytes) (8 * k) 8 (get_or bytes k 0) (holds_digits (bit_at bytes) (8 * k) 8 (get_or bytes k 0) bit) ∙ mod-eq_of_lt small
  where
    bit : (i r : ℕ) → suc i + r ≡ 8 → bit_at bytes (8 * k + i) ≡ odd (get_or bytes k 0 / 2 ^ r)
    bit i r e =
        let q : (8 * k + i) / 8 ≡ k = omega (arith, e) in
        let m : 7 - (8 * k + i) % 8 ≡ r = omega (arith, e) in
        ap₂ (λ (b s : ℕ). odd (get_or bytes b 0 / 2 ^ s)) q m

-- a byte more
pub byte_more : (bytes : List ℕ) (k i : ℕ) → get_or bytes (k + i) 0 < 256
    → number (bit_at bytes) (8 * k) (8 * (i + 1)) ≡ 256 * number (bit_at bytes) (8 * k) (8 * i) + get_or bytes (k + i) 0
byte_more bytes k i small =
    let s = bit_at bytes in
    let wide : 8 * (i + 1) ≡ 8 * i + 8 = omega arith in
    let at : 8 * k + 8 * i ≡ 8 * (k + i) = omega arith in
    let byte = ap (λ (x : ℕ). number s x 8) at ∙ byte_number bytes (k + i) small in
    ap (number s (8 * k)) wide ∙ number_split s (8 * k) (8 * i) 8 ∙ omega (arith, byte)

-- the first eight bytes, the high one first
pub eight_numbers : (bytes eight : List ℕ) → ((i : ℕ) → get_or bytes i 0 < 256) → ((i : ℕ) → i < 8 → get_or eight i 0 ≡ get_or bytes i 0)
    → from_be_bytes w64 eight ≡ number (bit_at bytes) 0 64
eight_numbers bytes eight small same =
    let first = byte_number bytes 0 (small 0) in
    let more = λ (i : ℕ). byte_more bytes 0 i (small (0 + i)) in
    grind (arith, first, more 1, more 2, more 3, more 4, more 5, more 6, more 7, same 0 (lit< tt), same 1 (lit< tt), same 2 (lit< tt), same 3 (lit< tt), same 4 (lit< tt), same 5 (lit< tt), same 6 (lit< tt), same 7 (lit< tt))

-- bytes from byte k on
pub number_drop : (bytes : List ℕ) (k w : ℕ) → number (bit_at (drop k bytes)) 0 w ≡ number (bit_at bytes) (8 * k) w
unfolding bit_at
number_drop bytes k w = number_same (bit_at (drop k bytes)) (bit_at bytes) 0 (8 * k) w same
  where
    same : (i : ℕ) → i < w → bit_at (drop k bytes) (0 + i) ≡ bit_at bytes (8 * k + i)
    same i l =
        let q : k + (0 + i) / 8 ≡ (8 * k + i) / 8 = omega arith in
        let m : (0 + i) % 8 ≡ (8 * k + i) % 8 = omega arith in
        rw (get_or-drop k bytes ((0 + i) / 8) 0) (ap₂ (λ (b s : ℕ). odd (get_or bytes b 0 / 2 ^ (7 - s))) q m)

-- and there are only zeros behind them
pub number_behind : (bytes : List ℕ) (k w : ℕ) → length bytes ≤ k → number (bit_at bytes) (8 * k) w ≡ 0
number_behind bytes k w h = number_zero (bit_at bytes) (8 * k) w (λ i l. no_bit_behind bytes (8 * k + i) (omega arith))

pub ruleset from_byte = (number_drop, number_behind)

-- and bytes that have the bits of a list, and no others, are the list packed
pub packed_of : (bytes : List ℕ) (bits : List Bool) → ((k : ℕ) → get_or bytes k 0 < 256) → length bytes ≡ bytes_for (length bits) → ((i : ℕ) → bit_at bytes i ≡ stream_of bits i) → packed bits ≡ bytes
unfolding packed
packed_of bytes bits small long same =
    sym (ext_get_or 0 bytes (packed bits) (long ∙ sym (length_packed bits)) (λ k l.
    sym (byte_number bytes k (small k))
    ∙ number_same (bit_at bytes) (stream_of bits) (8 * k) (8 * (0 + k)) 8 (λ i h. same (8 * k + i) ∙ ap (λ (x : ℕ). stream_of bits (8 * x + i)) (sym (zero-add k)))
    ∙ sym (byte_at (stream_of bits) 0 (bytes_for (length bits)) k (omega (arith, long)))))

-- ** Packed bits, as a reader tests them

pub packed_holds : (bits : List Bool) → Holds (bit_at (packed bits)) 0 bits
packed_holds bits = holds_of (bit_at (packed bits)) 0 bits (λ i l. ap (bit_at (packed bits)) (zero-add i) ∙ packed_bit bits i)

pub packed_padding : (bits : List Bool) → number (bit_at (packed bits)) (length bits) 8 ≡ 0
packed_padding bits = number_zero (bit_at (packed bits)) (length bits) 8 (λ i l. packed_bit bits (length bits + i) ∙ get_or-eq_default bits false {n = length bits + i} (omega arith))

pub packed_held : (bytes : List ℕ) (bits : List Bool) → ((k : ℕ) → get_or bytes k 0 < 256) → Holds (bit_at bytes) 0 bits → number (bit_at bytes) (length bits) 8 ≡ 0
    → length bytes ≡ bytes_for (length bits) → packed bits ≡ bytes
packed_held bytes bits small h padding long = packed_of bytes bits small long (λ i. by i (ltb i (length bits)) refl (ltb i (length bits + 8)) refl)
  where
    by : (i : ℕ) (inside : Bool) → ltb i (length bits) ≡ inside → (near : Bool) → ltb i (length bits + 8) ≡ near → bit_at bytes i ≡ stream_of bits i
    by i true e near f = ap (bit_at bytes) (sym (zero-add i)) ∙ holds_at (bit_at bytes) 0 bits h i (ltb-true i (length bits) e)
    by i false e true f =
        let l = ltb-false i (length bits) e in
        let n = ltb-true i (length bits + 8) f in
        let g : length bits + (i - length bits) ≡ i = omega arith in
        ap (bit_at bytes) (sym g) ∙ zero_number (bit_at bytes) (length bits) 8 padding (i - length bits) (omega arith) ∙ sym (get_or-eq_default bits false {n = i} l)
    by i false e false f =
        let l = ltb-false i (length bits) e in
        let n = ltb-false i (length bits + 8) f in
        no_bit_behind bytes i (omega (arith, long)) ∙ sym (get_or-eq_default bits false {n = i} l)
