-- Request S-2 in numbers, at degree 4: which coefficients of z a response may have, and what is left where one is too large. A word that a
-- point leaves open is any word; negsuc k is -(k + 1). Assumes nothing.
use Rattle.std.specs.Prelude.{◌≡◌, Bool, true, false, List, [], ◌∷◌, ◌++◌, ℕ, ◌<◌, ℤ, pos, negsuc, nat_abs, get_or, replicate}
use Rattle.exponential.specs.Exponential.{polynomial}
use Rattle.response.specs.Response.{response_z, response_bit, respond_entries}
use Rattle.session.specs.Calls.{Respond, RespondLeft, respond_left}
use Rattle.known_points.specs.KnownPoints.{e, three, with_zeros, bit_over}

-- ** What the points are about

-- y with this value in the last place of its first half, and zeros
abbrev pub last_of_first_half : (value : ℤ) → List ℤ
last_of_first_half value = replicate 3 (pos 0) ++ value ∷ replicate 4 (pos 0)

-- the bit where Sc is zero, so that z is y
abbrev pub bit_of_noise : (y : List ℤ) (words : List ℕ) → Bool
bit_of_noise y words = response_bit e 4 y (replicate 8 (pos 0)) words

-- a respond over this y, with the zero key and all words 0: every test of document 01 passes where Z does
abbrev pub respond_over : (y : List ℤ) → Respond
respond_over y = record {
  challenge = 1 ∷ [];
  polynomial = polynomial;
  words = three 0 0 0;
  key = replicate 8 (pos 0);
  y = y;
  z = replicate 8 (pos 9);
  list = replicate 55 0;
}

-- what it leaves after a full draw
abbrev pub left_over : (y : List ℤ) → RespondLeft
left_over y = respond_left (record { degree = 4; deviation = 215; drawn = 1 }) (respond_over y)

-- what such a respond leaves with this bit and z
abbrev pub answered_with : (bit : Bool) (z : List ℤ) → RespondLeft
answered_with bit z = record {
  responded = record {
    answer = record { refusal = 0; bit = bit; entries = 55 };
    session = record { degree = 4; deviation = 215; drawn = 0 };
  };
  y = replicate 8 (pos 0);
  z = z;
  list = respond_entries 4 bit (1 ∷ []);
}

-- ** The points

pub record CoefficientNumbers : Type 0 where
  -- 2,100 and -2,100 may pass in every place of z1, and with them 2,815 and -2,815 in every place of z2
  pub largest : (word₂ : ℕ) → bit_of_noise (replicate 4 (pos 2100) ++ replicate 4 (pos 2815)) (three 0 0 word₂) ≡ true
  pub smallest : (word₂ : ℕ) → bit_of_noise (replicate 4 (negsuc 2099) ++ replicate 4 (negsuc 2814)) (three 0 0 word₂) ≡ true
  -- 2,101 and -2,101 never, in its first place and in its last, whatever the words are
  pub larger_first : (words : List ℕ) → bit_of_noise (with_zeros (pos 2101)) words ≡ false
  pub smaller_first : (words : List ℕ) → bit_of_noise (with_zeros (negsuc 2100)) words ≡ false
  pub larger_last : (words : List ℕ) → bit_of_noise (last_of_first_half (pos 2101)) words ≡ false
  pub smaller_last : (words : List ℕ) → bit_of_noise (last_of_first_half (negsuc 2100)) words ≡ false
  -- nor any larger size in any place of z1, over any product, at any degree
  pub larger : (n : ℕ) (y sc : List ℤ) (words : List ℕ) (i : ℕ) → i < n → 2100 < nat_abs (get_or (response_z y sc words) i (pos 0))
      → response_bit e n y sc words ≡ false
  -- 2,101 and -2,101 may pass in z2, in its first place and in its last
  pub second_half : (word₂ : ℕ)
      → bit_of_noise (replicate 4 (pos 0) ++ pos 2101 ∷ pos 0 ∷ pos 0 ∷ negsuc 2100 ∷ []) (three 0 0 word₂) ≡ true
  -- it is z that is tested, after the sign: y = 2,095 and Sc = 6 give 2,101 where g is 0, and 2,089 where it is 1
  pub by_plus : (word₁ word₂ : ℕ) → bit_over (pos 2095) (pos 6) (three 0 word₁ word₂) ≡ false
  pub by_minus : bit_over (pos 2095) (pos 6) (three 1 0 0) ≡ true
  -- y = 2,106 and Sc = 6 give 2,100 where g is 1, though y is larger
  pub noise_larger : bit_over (pos 2106) (pos 6) (three 1 0 0) ≡ true
  --
  -- ** Whole responds
  -- a response is handed back with all values of z1 at the limit and those of z2 above it
  pub handed_back : left_over (replicate 4 (negsuc 2099) ++ replicate 4 (pos 2101))
      ≡ answered_with true (replicate 4 (negsuc 2099) ++ replicate 4 (pos 2101))
  -- one value of z1 above it alone rejects: z and y are zero, nothing is drawn any more, and the list ends with (9, 0)
  pub rejected : left_over (with_zeros (pos 2101)) ≡ answered_with false (replicate 8 (pos 0))
