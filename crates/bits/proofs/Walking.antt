-- A loop over items in a stream: i of count are behind it, and the others stand from a place on. Assumes nothing.
use mathlib.Core.Path.{◌≡◌, refl, ap, ◌∙◌}
use mathlib.Core.Bool.{Bool, true, false, ◌&&◌, and-eq-true_iff}
use mathlib.Core.List.{List, ◌++◌, append-nil}
use Prim.Native.Nat.{ℕ, zero, suc, ◌+◌, ◌-◌, ◌≤◌, ◌<◌}
use native.Mathlib.Nat.{zero-add}
use native.Mathlib.Numerals.{add-one}
use native.Mathlib.Omega.{arith}
use lib.ListN.{length, set, drop, length-set, drop_of_length-le}
use lib.Seq.{sets, sets-eq}
use Rattle.bits.specs.Items.{items_at, behind, each_at}

pub length_items : {A : Type 0} (item : ℕ → A) (next : ℕ → ℕ) (at count : ℕ) → length (items_at item next at count) ≡ count
unfolding items_at
length_items item next at zero = refl
length_items item next at (suc count) = ap suc (length_items item next (next at) count)

-- what is left of a count
pub none_left : {i count : ℕ} → count ≤ i → count - i ≡ 0
none_left h = omega arith

pub one_left : {i count : ℕ} → i < count → count - i ≡ suc (count - (i + 1))
one_left h = omega arith

module _ (next : ℕ → ℕ) (at count : ℕ) where
  -- ** The place behind the items

  pub record Walked (place i : ℕ) : Type 0 where
    pub within : i ≤ count
    pub end : behind next place (count - i) ≡ behind next at count

  pub walk_step : {place i : ℕ} → i < count → Walked place i → Walked (next place) (i + 1)
  unfolding behind
  walk_step {place = place} {i = i} l w = record { within = omega arith; end = rw (one_left {i = i} l) at w.end }

  pub walk_end : {place i : ℕ} → count ≤ i → Walked place i → place ≡ behind next at count
  unfolding behind
  walk_end {i = i} l w = rw (none_left {i = i} l) at w.end

  -- ** Items written one after the other

  module _ {A : Type 0} (item : ℕ → A) (list : List A) where
    pub record Written (now : List A) (place i : ℕ) : Type 0 where
      pub long : length now ≡ length list
      pub all : sets now i (items_at item next place (count - i)) ≡ sets list 0 (items_at item next at count)

    pub write_step : {now : List A} {place i : ℕ} → i < count → Written now place i → Written (set now i (item place)) (next place) (i + 1)
    unfolding items_at
    write_step {now = now} {i = i} l w =
        let e : count - i ≡ suc (count - suc i) = omega arith in
        record { long = length-set now i _ ∙ w.long; all = rw (add-one i) (rw e at w.all) }

    -- the list has as many places
    pub write_end : {now : List A} {place i : ℕ} → count ≤ i → count ≡ length list → Written now place i → now ≡ items_at item next at count
    unfolding items_at
    write_end {i = i} l e w =
        let items = items_at item next at count in
        let long : length items ≡ length list = length_items item next at count ∙ e in
        rw (none_left {i = i} l) at w.all
        ∙ sets-eq items list 0 (omega (arith, long))
        ∙ ap (λ (k : ℕ). items ++ drop k list) (zero-add (length items) ∙ long)
        ∙ ap (λ (rest : List A). items ++ rest) (drop_of_length-le list {i = length list} (omega arith))
        ∙ append-nil items

  -- ** Tests made one after the other, until one fails

  module _ (test : ℕ → Bool) where
    -- those before have passed
    pub record Passed (place i : ℕ) : Type 0 where
      pub rest : each_at test next place (count - i) ≡ each_at test next at count

    -- the next one, and those behind it
    next_tested : {place i : ℕ} → i < count → Passed place i → (test place && each_at test next (next place) (count - (i + 1))) ≡ each_at test next at count
    unfolding each_at
    next_tested {i = i} l p = rw (one_left {i = i} l) at p.rest

    pub pass_step : {place i : ℕ} → i < count → test place ≡ true → Passed place i → Passed (next place) (i + 1)
    pass_step l e p = record { rest = rw e at (next_tested l p) }

    pub pass_fails : {place i : ℕ} → i < count → test place ≡ false → Passed place i → false ≡ each_at test next at count
    pass_fails l e p = rw e at (next_tested l p)

    -- where all pass, so does the next one
    pub passes_next : {place i : ℕ} → i < count → each_at test next at count ≡ true → Passed place i → test place ≡ true
    passes_next {place = place} l all p = ((and-eq-true_iff (test place) _).0 (next_tested l p ∙ all)).0

    pub pass_end : {place i : ℕ} → count ≤ i → Passed place i → true ≡ each_at test next at count
    unfolding each_at
    pass_end {i = i} l p = rw (none_left {i = i} l) at p.rest
