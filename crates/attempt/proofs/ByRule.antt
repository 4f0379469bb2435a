-- Attempt t is attempt 0 over its own four words, attempt 0 is by the rule, and its entries stand in order. Assumes nothing.
use mathlib.Core.Path.{◌≡◌, refl, sym, ap, ◌∙◌}
use mathlib.Core.Bool.{Bool, true, false, not, ◌&&◌, false≢true, and-eq-true_iff}
use mathlib.Core.List.{List, [], ◌∷◌, ◌++◌}
use mathlib.Core.Logic.{◌↔◌}
use Prim.Native.Nat.{ℕ, ◌+◌, ◌*◌, ◌/◌, ◌%◌, ◌^◌, ◌<◌}
use native.Mathlib.Nat.{add-zero, zero-add}
use native.Mathlib.Omega.{arith}
use lib.Dec.{ltb, eqb}
use lib.ListN.{get_or, take, drop, get_or-append}
use lib.Seq.{get_or-take, get_or-drop, get_or-append-add}
use borrow.Author.Tests.{ltb-true, lt-ltb, eqb-true, eq-eqb, ne_eqb}
use Rattle.read_list.specs.Entries.{entry, places_up, places_down}
use Rattle.read_list.proofs.Runs.{places_up_at, places_down_at}
use Rattle.attempt.specs.Attempt.{size, exponent, accepts, sample, bit_at, sample_at, AttemptByItsWords, AttemptByRule, attempt_entries}
use Rattle.attempt.specs.Attempt.{AttemptLists}

-- ** The words

its_word : (words : List ℕ) (t i : ℕ) → i < 4 → get_or words (4 * t + i) 0 ≡ get_or (take 4 (drop (4 * t) words)) i 0
its_word words t i h = sym (get_or-take 4 (drop (4 * t) words) i 0 h ∙ get_or-drop (4 * t) words i 0)

pub attempt_by_its_words : AttemptByItsWords
unfolding bit_at sample_at
attempt_by_its_words e cdt words t =
    let w₀ = ap (λ (k : ℕ). get_or words k 0) (sym (add-zero (4 * t))) ∙ its_word words t 0 (omega arith) in
    let w₁ = its_word words t 1 (omega arith) in
    let w₂ = its_word words t 2 (omega arith) in
    let w₃ = its_word words t 3 (omega arith) in
    record { bit = rw (w₀, w₁, w₂, w₃); sample = rw (w₀, w₁, w₂) }

-- ** The rule

-- not both of two equations
not_both : (a b c d : ℕ) → (not (eqb a b && eqb c d) ≡ true) ↔ ((a ≡ b) × (c ≡ d) → ⊥)
not_both a b c d = (λ h p. no h p, λ h. by h (eqb a b) refl)
  where
    no : not (eqb a b && eqb c d) ≡ true → (a ≡ b) × (c ≡ d) → ⊥
    no h p = false≢true (rw (eq-eqb a b p.0, eq-eqb c d p.1) at h)

    by_second : ((a ≡ b) × (c ≡ d) → ⊥) → a ≡ b → (t : Bool) → eqb c d ≡ t → not t ≡ true
    by_second h e true f = absurd (h (e, eqb-true c d f))
    by_second h e false f = refl

    by : ((a ≡ b) × (c ≡ d) → ⊥) → (t : Bool) → eqb a b ≡ t → not (t && eqb c d) ≡ true
    by h true e = by_second h (eqb-true a b e) (eqb c d) refl
    by h false e = refl

accepted_by_rule : (e : ℕ → ℕ) (x b sign u : ℕ)
    → (accepts e x b (eqb sign 1) u ≡ true) ↔ ((u < e (b * (b + 512 * x))) × ((256 * x + b ≡ 0) × (sign ≡ 1) → ⊥))
unfolding accepts
accepted_by_rule e x b sign u =
    let both = and-eq-true_iff (ltb u (e (exponent x b))) (not (eqb (size x b) 0 && eqb sign 1)) in
    let zero_apart = not_both (256 * x + b) 0 sign 1 in
    (λ h. let p = both.0 h in (ltb-true u _ p.0, zero_apart.0 p.1), λ h. both.1 (lt-ltb u _ h.0, zero_apart.1 h.1))

pub attempt_by_rule : AttemptByRule
unfolding bit_at sample_at sample
attempt_by_rule e cdt first second third fourth = record {
  bit = accepted_by_rule e _ (third % 256) (third / 256 % 2) (fourth % 2 ^ 62);
  plus = λ h. rw (ne_eqb (third / 256 % 2) 1 (λ g. omega arith));
  minus = λ h. rw (eq-eqb (third / 256 % 2) 1 h);
}

-- ** The entries

pub attempt_lists : AttemptLists
unfolding attempt_entries places_up places_down
attempt_lists t before =
    let words = places_up 2 (4 * t) 4 in
    let thresholds = places_up 3 0 20 in
    let entries = places_down 4 21 in
    let behind = entries ++ (entry 5 before ∷ []) in
    record {
      count = refl;
      words = λ i h. get_or-append words (thresholds ++ behind) 0 i h ∙ places_up_at 2 (4 * t) 4 i h;
      thresholds = λ i h. get_or-append-add words (thresholds ++ behind) i 0 ∙ get_or-append thresholds behind 0 i h ∙ places_up_at 3 0 20 i h ∙ ap (entry 3) (zero-add i);
      polynomial_entries = λ i h. let place : 24 + i ≡ 4 + (20 + i) = omega arith in
          ap (λ (m : ℕ). get_or (words ++ (thresholds ++ behind)) m 0) place ∙ get_or-append-add words (thresholds ++ behind) (20 + i) 0 ∙ get_or-append-add thresholds behind i 0
          ∙ get_or-append entries (entry 5 before ∷ []) 0 i h ∙ places_down_at 4 21 i h ∙ ap (entry 4) (omega arith);
      last = refl;
    }
