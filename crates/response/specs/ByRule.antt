-- A response by the words of document 01 and request S-2: z value by value, the tests of its bit, and where its reads are listed. Assumes
-- nothing.
use Rattle.std.specs.Prelude.{◌≡◌, Bool, true, List, [], ◌∷◌, ◌++◌, ◌↔◌, ℕ, ◌+◌, ◌-◌, ◌*◌, ◌/◌, ◌%◌}
use Rattle.std.specs.Prelude.{◌^◌, ◌≤◌, ◌<◌, min, length, get_or, drop, ℤ, pos, nat_abs, ◌+ℤ◌, ◌-ℤ◌}
use Rattle.arithmetic.specs.Words.{bit}
use Rattle.read_list.specs.Entries.{entry, places_down}
use Rattle.signed.specs.Vectors.{square_sum, inner_product}
use Rattle.challenge_product.specs.InOrder.{HalvesListed}
use Rattle.response.specs.Response.{response_z, response_bit, respond_entries}

-- ** z

-- z is y + Sc where bit 0 of the first word is 0, else y - Sc
pub record PlusOrMinus (first : ℕ) (y sc z : List ℤ) : Type 0 where
  pub as_long : length z ≡ length y
  pub plus : first % 2 ≡ 0 → (i : ℕ) → i < length y → get_or z i (pos 0) ≡ get_or y i (pos 0) +ℤ get_or sc i (pos 0)
  pub minus : first % 2 ≡ 1 → (i : ℕ) → i < length y → get_or z i (pos 0) ≡ get_or y i (pos 0) -ℤ get_or sc i (pos 0)

abbrev pub ResponsePlusOrMinus : Type 0
ResponsePlusOrMinus =
    (y sc : List ℤ) (words : List ℕ) → length sc ≡ length y → PlusOrMinus (get_or words 0 0) y sc (response_z y sc words)

-- ** The bit

-- the cosh test, multiplied out
abbrev pub CoshPasses : (e third : ℕ) → Type 0
CoshPasses e third = third % 2 ^ 62 * (2 ^ 62 + e * e / 2 ^ 62) < e * 2 ^ 63

-- document 01's tests of Sc, z and the second and third word, beside that of A
pub record OtherTestsPass (e : ℕ → ℕ) (sc z : List ℤ) (second third : ℕ) : Type 0 where
  pub norm : square_sum z ≤ 165688384
  pub first_exponential : second % 2 ^ 62 < e (46225 - square_sum sc)
  pub second_exponential : CoshPasses (e (min (2 * nat_abs (inner_product z sc)) 5534960)) third

-- the four of document 01
pub record FourTestsPass (e : ℕ → ℕ) (sc z : List ℤ) (second third : ℕ) : Type 0 where
  pub squares : square_sum sc ≤ 46225
  pub others : OtherTestsPass e sc z second third

-- S-2's test: each coefficient of z1, the first n values of z, is from -2,100 to 2,100
abbrev pub CoefficientsPass : (n : ℕ) (z : List ℤ) → Type 0
CoefficientsPass n z = (i : ℕ) → i < n → nat_abs (get_or z i (pos 0)) ≤ 2100

-- all that must hold for bit 1
pub record AllTestsPass (e : ℕ → ℕ) (n : ℕ) (sc z : List ℤ) (second third : ℕ) : Type 0 where
  pub four : FourTestsPass e sc z second third
  pub coefficients : CoefficientsPass n z

-- the bit is 1 exactly then
abbrev pub BitByTests : Type 0
BitByTests =
    (e : ℕ → ℕ) (n : ℕ) (y sc : List ℤ) (words : List ℕ)
    → (response_bit e n y sc words ≡ true) ↔ AllTestsPass e n sc (response_z y sc words) (get_or words 1 0) (get_or words 2 0)

-- ** The read list

-- entries are those of a response with this bit: the degree, the product, three words, the polynomial table twice, the bit
pub record ResponseListed (n : ℕ) (challenge : List ℕ) (accepted : Bool) (entries : List ℕ) : Type 0 where
  pub count : length entries ≡ 2 * n * length challenge + 47
  pub first : get_or entries 0 0 ≡ entry 7 n
  pub key : HalvesListed n challenge (drop 1 entries)
  pub others : drop (2 * n * length challenge + 1) entries
      ≡ entry 2 0 ∷ entry 2 1 ∷ entry 2 2 ∷ (places_down 4 21 ++ (places_down 4 21 ++ (entry 9 (bit accepted) ∷ [])))

abbrev pub RespondLists : Type 0
RespondLists =
    (n : ℕ) (accepted : Bool) (challenge : List ℕ) → ResponseListed n challenge accepted (respond_entries n accepted challenge)
