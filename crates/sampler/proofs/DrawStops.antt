-- A draw stops at the first attempt that makes as many samples as wanted, or after the limit with fewer. Assumes nothing.
use mathlib.Core.Path.{◌≡◌, refl, ap, ◌∙◌}
use mathlib.Core.Bool.{Bool, true, false}
use mathlib.Core.List.{List, [], ◌∷◌}
use mathlib.Core.Logic.{◌⊎◌, inl, inr, ⊎_elim}
use Prim.Native.Nat.{ℕ, zero, suc, ◌+◌, ◌<◌}
use native.Mathlib.Nat.{le_of_suc-le-suc, not-suc-le-zero}
use native.Mathlib.Omega.{arith}
use lib.ListN.{length, get_or, take}
use Rattle.arithmetic.specs.Words.{bit}
use Rattle.sampler.specs.Draw.{still_wanted, bits_from, draw_bits, accepted, Stops, DrawStops}

module _ (bit_of : ℕ → Bool) where
  no_attempt : (t limit want : ℕ) → (accepted [] ≡ want) ⊎ ((accepted [] < want) × (0 ≡ limit)) → Stops bit_of t limit want []
  no_attempt t limit want end = record {
    within = omega arith;
    each = λ k h. absurd (not-suc-le-zero h);
    still_wanted_lem = λ k h. absurd (not-suc-le-zero h);
    ends = end;
  }

  -- the samples still wanted after an attempt, and its own
  with_its_own : (b : Bool) (wanted count : ℕ) → count < still_wanted b wanted → bit b + count < suc wanted
  with_its_own true wanted count h = omega arith
  with_its_own false wanted count h = omega arith

  all_with_its_own : (b : Bool) (wanted count : ℕ) → count ≡ still_wanted b wanted → bit b + count ≡ suc wanted
  all_with_its_own true wanted count h = omega arith
  all_with_its_own false wanted count h = omega arith

  -- an attempt, and then the others
  one_attempt : (t left wanted : ℕ) (bits : List Bool) → Stops bit_of (suc t) left (still_wanted (bit_of t) wanted) bits
      → Stops bit_of t (suc left) (suc wanted) (bit_of t ∷ bits)
  unfolding accepted
  one_attempt t left wanted bits s = record {
    within = omega (arith, s.within);
    each = each;
    still_wanted_lem = still_wanted_lem;
    ends = ⊎_elim
        (λ e. inl (all_with_its_own (bit_of t) wanted (accepted bits) e))
        (λ p. inr (with_its_own (bit_of t) wanted (accepted bits) p.0, ap suc p.1))
        s.ends;
  }
    where
      each : (k : ℕ) → k < suc (length bits) → get_or (bit_of t ∷ bits) k false ≡ bit_of (t + k)
      each zero h = ap bit_of (omega arith)
      each (suc k) h = s.each k (le_of_suc-le-suc h) ∙ ap bit_of (omega arith)

      still_wanted_lem : (k : ℕ) → k < suc (length bits) → accepted (take k (bit_of t ∷ bits)) < suc wanted
      still_wanted_lem zero h = omega arith
      still_wanted_lem (suc k) h = with_its_own (bit_of t) wanted (accepted (take k bits)) (s.still_wanted_lem k (le_of_suc-le-suc h))

  stops_from : (t left wanted : ℕ) → Stops bit_of t left wanted (bits_from bit_of t left wanted)
  unfolding bits_from accepted
  stops_from t zero zero = no_attempt t 0 0 (inl refl)
  stops_from t zero (suc wanted) = no_attempt t 0 (suc wanted) (inr (omega arith, refl))
  stops_from t (suc left) zero = no_attempt t (suc left) 0 (inl refl)
  stops_from t (suc left) (suc wanted) = one_attempt t left wanted _ (stops_from (suc t) left (still_wanted (bit_of t) wanted))

pub draw_stops : DrawStops
unfolding draw_bits
draw_stops e cdt words limit want = stops_from _ 0 limit want
