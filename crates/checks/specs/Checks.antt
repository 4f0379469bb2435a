-- What calls test before they are served. Assumes nothing.
use Rattle.std.specs.Prelude.{Bool, true, false, ◌&&◌, ◌||◌, cond, List, [], ◌∷◌, ℕ, zero, suc, eqb}

-- whether a number is among those of a list
unfoldable pub among : List ℕ → ℕ → Bool
among [] n = false
among (k ∷ ks) n = eqb n k || among ks n

-- the powers of two from 4 to 1,024
abbrev pub degrees : List ℕ
degrees = 4 ∷ 8 ∷ 16 ∷ 32 ∷ 64 ∷ 128 ∷ 256 ∷ 512 ∷ 1024 ∷ []

-- whether n is a degree
unfoldable pub is_degree : ℕ → Bool
is_degree n = among degrees n

-- whether a test holds at every number below n
unfoldable pub all_below : (ℕ → Bool) → ℕ → Bool
all_below test zero = true
all_below test (suc n) = all_below test n && test n

-- ** Refusals

-- a test that a call must pass, and the refusal where it fails
pub data Line : Type 0 where
  line : (refusal : ℕ) (test : Bool) → Line

-- the refusal of the first line whose test fails, or 0
unfoldable pub first_refusal : (lines : List Line) → ℕ
first_refusal [] = 0
first_refusal (line refusal test ∷ lines) = cond test (first_refusal lines) refusal
