-- Where the outputs of the challenge product stand, and where their reads are listed. Assumes nothing.
use Rattle.std.specs.Prelude.{◌≡◌, List, ℕ, ◌+◌, ◌-◌, ◌*◌, ◌≤◌, ◌<◌, length, get_or, ℤ, pos}
use Rattle.read_list.specs.Entries.{entry}
use Rattle.challenge_product.specs.Product.{output_at, product, product_entries}

-- Sc is the outputs of s1, then those of s2
pub record Halves (key : List ℤ) (n : ℕ) (challenge : List ℕ) : Type 0 where
  pub both : length (product key n challenge) ≡ 2 * n
  pub first : (i : ℕ) → i < n → get_or (product key n challenge) i (pos 0) ≡ output_at key n 0 i challenge
  pub second : (i : ℕ) → i < n → get_or (product key n challenge) (n + i) (pos 0) ≡ output_at key n n i challenge

abbrev pub ProductHalves : Type 0
ProductHalves = (key : List ℤ) (n : ℕ) (challenge : List ℕ) → Halves key n challenge

-- an entry is of the index of s that output i uses for the position c: i - c where i is at least c, else i - c + n; the half starts at base
pub record IndexListed (n base i c listed : ℕ) : Type 0 where
  pub direct : c ≤ i → listed ≡ entry 8 (base + (i - c))
  pub wrapped : i < c → listed ≡ entry 8 (base + (i + n - c))

-- entries are those of a product: for each half, then each output, then each position in order, the index of s used
pub record HalvesListed (n : ℕ) (challenge entries : List ℕ) : Type 0 where
  pub first : (i k : ℕ) → i < n → k < length challenge
      → IndexListed n 0 i (get_or challenge k 0) (get_or entries (i * length challenge + k) 0)
  pub second : (i k : ℕ) → i < n → k < length challenge
      → IndexListed n n i (get_or challenge k 0) (get_or entries ((n + i) * length challenge + k) 0)

abbrev pub ProductListed : Type 0
ProductListed = (n : ℕ) (challenge : List ℕ) → HalvesListed n challenge (product_entries n challenge)
