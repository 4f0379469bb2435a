-- Tests at every number below another, as a loop makes them and in two parts. Assumes nothing.
use mathlib.Core.Path.{◌≡◌, refl, sym, ap, ap₂, ◌∙◌}
use mathlib.Core.Bool.{Bool, true, false, ◌&&◌, and-true, and-false, and_assoc, false≢true}
use Prim.Native.Nat.{ℕ, zero, suc, ◌+◌, ◌*◌, ◌≤◌, ◌<◌}
use native.Mathlib.Nat.{not-suc-le-zero, le_of_suc-le-suc, le_antisymm, le_refl, add-zero, add-suc}
use native.Mathlib.Numerals.{add-one}
use native.Mathlib.Omega.{arith}
use lib.Dec.{ltb}
use borrow.Author.Tests.{ltb-true, ltb-false}
use Rattle.checks.specs.Checks.{all_below}

module _ (test : ℕ → Bool) where
  pub all_none : all_below test 0 ≡ true
  unfolding all_below
  all_none = refl

  pub all_more : (i : ℕ) → all_below test i ≡ true → test i ≡ true → all_below test (i + 1) ≡ true
  unfolding all_below
  all_more i h t = rw (add-one, h) t

  pub all_done : (i n : ℕ) → i ≤ n → n ≤ i → all_below test i ≡ true → true ≡ all_below test n
  all_done i n h g t = sym (ap (all_below test) (le_antisymm g h) ∙ t)

  pub all_broken : (i n : ℕ) → i < n → test i ≡ false → all_below test n ≡ false
  unfolding all_below
  all_broken i zero h t = absurd (not-suc-le-zero h)
  all_broken i (suc n) h t = by (λ g. all_broken i n g t) (ltb i n) refl
    where
      by : (i < n → all_below test n ≡ false) → (b : Bool) → ltb i n ≡ b → (all_below test n && test n) ≡ false
      by rest true f = rw (rest (ltb-true i n f))
      by rest false f =
          let e : n ≡ i = le_antisymm (ltb-false i n f) (le_of_suc-le-suc h) in
          ap (λ (b : Bool). all_below test n && b) (ap test e ∙ t) ∙ and-false (all_below test n)

  pub all_at : (i n : ℕ) → i < n → all_below test n ≡ true → test i ≡ true
  all_at i n h e = by (test i) refl
    where
      by : (t : Bool) → test i ≡ t → t ≡ true
      by true f = refl
      by false f = absurd (false≢true (sym (all_broken i n h f) ∙ e))

-- tests that are the same below n hold at every number below it alike
pub all_same : (test test' : ℕ → Bool) (n : ℕ) → ((i : ℕ) → i < n → test i ≡ test' i) → all_below test n ≡ all_below test' n
unfolding all_below
all_same test test' zero same = refl
all_same test test' (suc n) same = ap₂ ◌&&◌ (all_same test test' n (λ i h. same i (omega arith))) (same n (le_refl (suc n)))

-- ** In two parts

-- the numbers below m, and the n numbers from m on
pub all_split : (test : ℕ → Bool) (m n : ℕ) → all_below test (m + n) ≡ (all_below test m && all_below (λ (i : ℕ). test (m + i)) n)
unfolding all_below
all_split test m zero = rw (add-zero m) (sym (and-true (all_below test m)))
all_split test m (suc n) = rw (add-suc m n, all_split test m n) (and_assoc (all_below test m) _ (test (m + n)))

in_turn_lem : (a b x y : Bool) → (a && b && x && y) ≡ ((a && x) && (b && y))
in_turn_lem true true x y = refl
in_turn_lem true false true y = refl
in_turn_lem true false false y = refl
in_turn_lem false b x y = refl

-- the even numbers, and the odd ones
pub all_twos : (test : ℕ → Bool) (n : ℕ)
    → all_below test (2 * n) ≡ (all_below (λ (i : ℕ). test (2 * i)) n && all_below (λ (i : ℕ). test (2 * i + 1)) n)
unfolding all_below
all_twos test zero = refl
all_twos test (suc n) =
    let e : 2 * suc n ≡ suc (suc (2 * n)) = omega arith in
    rw (e, add-one (2 * n), all_twos test n) (in_turn_lem (all_below (λ (i : ℕ). test (2 * i)) n) _ (test (2 * n)) (test (suc (2 * n))))
