-- Tests that fail exactly where a line of a table of refusals applies. Assumes nothing.
use mathlib.Core.Path.{◌≡◌, refl, sym, ap, ◌∙◌}
use mathlib.Core.Bool.{Bool, true, false, ◌&&◌, ◌||◌, false≢true}
use mathlib.Core.List.{List, [], ◌∷◌}
use mathlib.Core.Logic.{◌⊎◌, ◌≢◌, inl, inr, ⊎_elim}
use Prim.Native.Nat.{ℕ, zero, suc, ◌^◌, ◌≤◌, ◌<◌}
use native.Mathlib.Omega.{arith}
use lib.Dec.{leb, ltb, eqb}
use lib.Pow.{pow_mono}
use borrow.Author.Tests.{eqb-true, eqb-false, leb-true, leb-false, ltb-true, ltb-false, le-ltb}
use Rattle.checks.specs.Checks.{among, is_degree, all_below, Line, line, first_refusal}
use Rattle.checks.specs.RefusalTable.{Refuses, refused, passed, Serves, Somewhere, PowerOfTwo}
use Rattle.checks.proofs.AllBelow.{all_at}
use Rattle.checks.proofs.Degrees.{degree_range}

-- a test fails exactly where a condition applies
pub record FailsWhere (test : Bool) (applies : Type 0) : Type 0 where
  pub fails : test ≡ false → applies
  pub holds : test ≡ true → applies → ⊥

-- where it never applies, the test holds
pub holds_unless : {test : Bool} {applies : Type 0} → FailsWhere test applies → (applies → ⊥) → test ≡ true
holds_unless {test = true} f never = refl
holds_unless {test = false} f never = absurd (never (f.fails refl))

-- ** A table, line by line

pub refuses : {test : Bool} {applies : Type 0} {later : ℕ → Type 0} (refusal : ℕ) (lines : List Line)
    → FailsWhere test applies → (test ≡ true → later (first_refusal lines))
    → Refuses refusal applies later (first_refusal (line refusal test ∷ lines))
unfolding first_refusal
refuses {test = true} refusal lines f rest = passed (f.holds refl) (rest refl)
refuses {test = false} refusal lines f rest = refused (f.fails refl) refl

-- a line whose test holds tells nothing
pub skips : {test : Bool} (refusal : ℕ) (lines : List Line) → test ≡ true
    → first_refusal (line refusal test ∷ lines) ≡ first_refusal lines
unfolding first_refusal
skips refusal lines h = rw h

pub serves : Serves (first_refusal [])
unfolding first_refusal
serves = refl

-- ** Tests

pub fails_unequal : (a b : ℕ) → FailsWhere (eqb a b) (a ≢ b)
fails_unequal a b = record { fails = λ e. eqb-false a b e; holds = λ e differ. differ (eqb-true a b e) }

pub fails_above : (a b : ℕ) → FailsWhere (leb a b) (b < a)
fails_above a b = record { fails = λ e. leb-false a b e; holds = λ e above. let h = leb-true a b e in omega arith }

pub fails_from : (a b : ℕ) → FailsWhere (ltb a b) (b ≤ a)
fails_from a b = record { fails = λ e. ltb-false a b e; holds = λ e from. let h = ltb-true a b e in omega arith }

pub fails_empty : (count : ℕ) → FailsWhere (ltb 0 count) (count ≡ 0)
fails_empty count = record { fails = λ e. let h = ltb-false 0 count e in omega arith; holds = λ e none. let h = ltb-true 0 count e in omega arith }

-- both of two tests
pub fails_either : {a b : Bool} {p q : Type 0} → FailsWhere a p → FailsWhere b q → FailsWhere (a && b) (p ⊎ q)
fails_either {a = true} f g = record { fails = λ e. inr (g.fails e); holds = λ e. ⊎_elim (f.holds refl) (g.holds e) }
fails_either {a = false} f g = record { fails = λ e. inl (f.fails refl); holds = λ e. absurd (false≢true e) }

-- a test at every number below another
module _ (test : ℕ → Bool) (condition : ℕ → Type 0) (each : (i : ℕ) → FailsWhere (test i) (condition i)) where
  one_more : (n : ℕ) → (all_below test n ≡ false → Somewhere n condition) → (t : Bool) → all_below test n ≡ t → (t && test n) ≡ false
      → Somewhere (suc n) condition
  one_more n before true f e = record { place = n; within = omega arith; there = (each n).fails e }
  one_more n before false f e = let s = before f in record { place = s.place; within = omega (arith, s.within); there = s.there }

  somewhere : (n : ℕ) → all_below test n ≡ false → Somewhere n condition
  unfolding all_below
  somewhere zero e = absurd (false≢true (sym e))
  somewhere (suc n) e = one_more n (somewhere n) (all_below test n) refl e

  pub fails_somewhere : (n : ℕ) → FailsWhere (all_below test n) (Somewhere n condition)
  fails_somewhere n = record {
    fails = somewhere n;
    holds = λ e s. (each s.place).holds (all_at test s.place n s.within e) s.there;
  }

-- ** Degrees

-- 2 ^ k, 2 ^ (k + 1), ..: count powers
unfoldable powers_from : (k count : ℕ) → List ℕ
powers_from k zero = []
powers_from k (suc count) = 2 ^ k ∷ powers_from (suc k) count

pub record Power (n : ℕ) : Type 0 where
  pub exponent : ℕ
  pub power : n ≡ 2 ^ exponent

among_powers : (k count n : ℕ) → among (powers_from k count) n ≡ true → Power n
unfolding powers_from among
among_powers k zero n e = absurd (false≢true e)
among_powers k (suc count) n e = by (among_powers (suc k) count n) (eqb n (2 ^ k)) refl e
  where
    by : (among (powers_from (suc k) count) n ≡ true → Power n) → (t : Bool) → eqb n (2 ^ k) ≡ t
        → (t || among (powers_from (suc k) count) n) ≡ true → Power n
    by later true f g = record { exponent = k; power = eqb-true n (2 ^ k) f }
    by later false f g = later g

power_of_degree : (n : ℕ) → is_degree n ≡ true → Power n
unfolding is_degree powers_from
power_of_degree n e = among_powers 2 9 n e

-- whether 2 ^ k is below 4, or a degree
unfoldable small_or_degree : ℕ → Bool
small_or_degree k = ltb (2 ^ k) 4 || is_degree (2 ^ k)

to_2_10 : (k : ℕ) → k < 11 → small_or_degree k ≡ true
unfolding small_or_degree all_below is_degree among
to_2_10 k h = all_at small_or_degree k 11 h refl

degree_of_power : (k : ℕ) → 4 ≤ 2 ^ k → 2 ^ k ≤ 1024 → is_degree (2 ^ k) ≡ true
unfolding small_or_degree
degree_of_power k low high = by (ltb k 11) refl
  where
    by : (t : Bool) → ltb k 11 ≡ t → is_degree (2 ^ k) ≡ true
    by true e = rw (le-ltb (2 ^ k) 4 low) at (to_2_10 k (ltb-true k 11 e))
    by false e = absurd (let h = pow_mono (ltb-false k 11 e) in omega arith)

pub fails_no_degree : (n : ℕ) → FailsWhere (is_degree n) (PowerOfTwo n → ⊥)
fails_no_degree n = record {
  fails = λ e p. false≢true (sym e ∙ ap is_degree p.power ∙ degree_of_power p.exponent (rw p.power at p.at_least) (rw p.power at p.at_most));
  holds = λ e none. none (let p = power_of_degree n e in let range = degree_range n e in record { exponent = p.exponent; power = p.power; at_least = range.0; at_most = range.1 });
}
