-- The response of document 01, from y, the challenge product Sc and three words. Assumes nothing.
use Rattle.std.specs.Prelude.{Bool, cond, List, [], ◌∷◌, ◌++◌, ℕ, ◌+◌, ◌*◌, ◌%◌, eqb, length, get_or, take, replicate, ℤ, pos, neg_ℤ, ◌+ℤ◌}
use Rattle.std.proofs.lemmas.List.Edits.{sets}
use Rattle.read_list.specs.Entries.{entry, places_up}
use Rattle.signed.specs.Vectors.{all_within, square_sum, inner_product}
use Rattle.challenge_product.specs.Product.{output_bound, product_entries}
use Rattle.response.specs.declared.Answer.{Answer}
use Rattle.acceptance.specs.declared.Measures.{Measures}
use Rattle.acceptance.specs.Acceptance.{accepts_by, acceptance_entries}

-- ** The response

-- the largest size of a value of y, 256 * 10 + 255, and of a value of z
abbrev pub noise_bound : ℕ
noise_bound = 2815

abbrev pub response_bound : ℕ
response_bound = noise_bound + output_bound

-- g: bit 0 of a word
abbrev pub subtracts : (word : ℕ) → Bool
subtracts word = eqb (word % 2) 1

-- z: y + Sc where g is 0, else y - Sc
unfoldable pub response_of : (g : Bool) (y sc : List ℤ) → List ℤ
response_of g [] sc = []
response_of g (v ∷ y) [] = []
response_of g (v ∷ y) (c ∷ sc) = (v +ℤ cond g (neg_ℤ c) c) ∷ response_of g y sc

-- z of a response to these words
unfoldable pub response_z : (y sc : List ℤ) (words : List ℕ) → List ℤ
response_z y sc words = response_of (subtracts (get_or words 0 0)) y sc

-- ** Its bit

-- the largest size of a coefficient that a verifier takes: BLISS-I's B-infinity
abbrev pub coefficient_limit : ℕ
coefficient_limit = 2100

-- whether each value of z1, the first n values of z, is from -2,100 to 2,100
unfoldable pub is_bounded : (n : ℕ) (z : List ℤ) → Bool
is_bounded n z = all_within coefficient_limit (take n z)

-- what it depends on: A is the sum of squares of Sc, Z that of z, I the sum of products of z and Sc; whether z1 is within its limit; and
-- the second and the third word
unfoldable pub measures_of : (n : ℕ) (y sc : List ℤ) (words : List ℕ) → Measures
measures_of n y sc words = let z = response_z y sc words in
    record {
      squares = square_sum sc;
      norm = square_sum z;
      inner = inner_product z sc;
      bounded = is_bounded n z;
      second = get_or words 1 0;
      third = get_or words 2 0;
    }

-- ** The read list

unfoldable pub respond_entries : (n : ℕ) (accepted : Bool) (challenge : List ℕ) → List ℕ
respond_entries n accepted challenge = entry 7 n ∷ (product_entries n challenge ++ (places_up 2 0 3 ++ acceptance_entries accepted))

-- the entries that a response to so many positions lists
abbrev pub respond_list_length : (n count : ℕ) → ℕ
respond_list_length n count = 2 * n * count + 47

-- ** A whole response

-- the bit of a response of degree n to these words
unfoldable pub response_bit : (e : ℕ → ℕ) (n : ℕ) (y sc : List ℤ) (words : List ℕ) → Bool
response_bit e n y sc words = accepts_by e (measures_of n y sc words)

-- what a response leaves: its answer, y, z and the list
pub record Response : Type 0 where
  pub answer : Answer
  pub y : List ℤ
  pub z : List ℤ
  pub list : List ℕ

-- what a response of degree n with this bit leaves: z is written or all zero, y is all zero; the entries stand from the start of the
-- list on, and the rest of it is unchanged
unfoldable pub responded_by : (n : ℕ) (accepted : Bool) (challenge : List ℕ) (z : List ℤ) (list : List ℕ) → Response
responded_by n accepted challenge z list = record {
  answer = record { bit = accepted; entries = length (respond_entries n accepted challenge) };
  y = replicate (2 * n) (pos 0);
  z = cond accepted z (replicate (2 * n) (pos 0));
  list = sets list 0 (respond_entries n accepted challenge);
}
