-- Tables of refusals as statements: what holds of the number that a call answers, and when each line applies. Assumes nothing.
use Rattle.std.specs.Prelude.{◌≡◌, ℕ, ◌^◌, ◌≤◌, ◌<◌}

-- one line: it applies, and the refusal is its number; or it does not, and the lines behind it tell the refusal
pub data Refuses (number : ℕ) (applies : Type 0) (later : ℕ → Type 0) (refusal : ℕ) : Type 0 where
  refused : applies → refusal ≡ number → Refuses number applies later refusal
  passed : (applies → ⊥) → later refusal → Refuses number applies later refusal

-- behind the last line: none applies
abbrev pub Serves : (refusal : ℕ) → Type 0
Serves refusal = refusal ≡ 0

-- ** When lines apply

-- a condition holds at some place below a count
pub record Somewhere (count : ℕ) (condition : ℕ → Type 0) : Type 0 where
  pub place : ℕ
  pub within : place < count
  pub there : condition place

-- n is a power of two from 4 to 1,024
pub record PowerOfTwo (n : ℕ) : Type 0 where
  pub exponent : ℕ
  pub power : n ≡ 2 ^ exponent
  pub at_least : 4 ≤ n
  pub at_most : n ≤ 1024
