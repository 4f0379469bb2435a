-- A table in document 01's order and its reordering have the same thresholds, and with them the rest; the reordering has an inverse. Assumes
-- nothing.
use mathlib.Core.Path.{◌≡◌, refl, sym, ap, ap₂, ◌∙◌}
use mathlib.Core.Bool.{◌&&◌}
use mathlib.Core.List.{List, [], ◌∷◌, ◌++◌}
use Prim.Native.Nat.{ℕ, zero, suc, ◌+◌, ◌*◌, ◌<◌}
use native.Mathlib.Omega.{arith}
use lib.ListN.{length, get_or, take, drop, length-append, length-drop, take-append-drop}
use lib.Seq.{take_at, drop_at, length-take-le}
use Rattle.checks.proofs.AllBelow.{all_same, all_split, all_twos}
use Rattle.base_sample.specs.BaseSample.{threshold, words_small, is_cdt, base_sample}
use Rattle.base_sample.specs.HighWordsFirst.{threshold_before, is_cdt_before, base_sample_before, firsts, seconds, reordered, in_turn}
use Rattle.base_sample.specs.HighWordsFirst.{restored, ReorderedAlike, RestoredInverse}
use Rattle.base_sample.proofs.Thresholds.{high_word, low_word}
use Rattle.base_sample.proofs.Agreement.{same_order, same_count}

-- ** Words in twos

first_at : (words : List ℕ) (i : ℕ) → get_or (firsts words) i 0 ≡ get_or words (2 * i) 0
unfolding firsts
first_at [] i = refl
first_at (w ∷ []) zero = refl
first_at (w ∷ []) (suc i) = let e : 2 * suc i ≡ suc (suc (2 * i)) = omega arith in rw e
first_at (w ∷ v ∷ words) zero = refl
first_at (w ∷ v ∷ words) (suc i) = let e : 2 * suc i ≡ suc (suc (2 * i)) = omega arith in rw e (first_at words i)

second_at : (words : List ℕ) (i : ℕ) → get_or (seconds words) i 0 ≡ get_or words (2 * i + 1) 0
unfolding seconds
second_at [] i = refl
second_at (w ∷ []) i = let e : 2 * i + 1 ≡ suc (2 * i) = omega arith in rw e
second_at (w ∷ v ∷ words) zero = refl
second_at (w ∷ v ∷ words) (suc i) = let e : 2 * suc i + 1 ≡ suc (suc (2 * i + 1)) = omega arith in rw e (second_at words i)

length_firsts : (words : List ℕ) (n : ℕ) → length words ≡ 2 * n → length (firsts words) ≡ n
unfolding firsts
length_firsts [] n h = omega (arith, h)
length_firsts (w ∷ []) n h = absurd (omega (arith, h))
length_firsts (w ∷ v ∷ words) zero h = absurd (omega (arith, h))
length_firsts (w ∷ v ∷ words) (suc n) h = ap suc (length_firsts words n (omega (arith, h)))

-- ** Thresholds, and what is told by them

module _ (table : List ℕ) (twenty : length table ≡ 20) where
  high_at : (i : ℕ) → i < 10 → get_or (reordered table) i 0 ≡ get_or table (2 * i) 0
  unfolding reordered
  high_at i h = high_word (firsts table) (seconds table) i (length_firsts table 10 twenty) h ∙ first_at table i

  low_at : (i : ℕ) → get_or (reordered table) (10 + i) 0 ≡ get_or table (2 * i + 1) 0
  unfolding reordered
  low_at i = low_word (firsts table) (seconds table) i (length_firsts table 10 twenty) ∙ second_at table i

  same_threshold : (i : ℕ) → i < 10 → threshold (reordered table) i ≡ threshold_before table i
  same_threshold i h = rw (high_at i h, low_at i)

  same_words_small : words_small (reordered table) ≡ words_small table
  unfolding words_small
  same_words_small =
      all_split _ 10 10 ∙ ap₂ ◌&&◌ (all_same _ _ 10 (λ i h. rw (high_at i h))) (all_same _ _ 10 (λ i h. rw (low_at i)))
      ∙ sym (all_twos _ 10)

pub reordered_alike : ReorderedAlike
unfolding is_cdt is_cdt_before base_sample base_sample_before
reordered_alike table twenty =
    let same = same_threshold table twenty in
    record {
      thresholds = same;
      is_cdt_lem = ap₂ ◌&&◌ (same_words_small table twenty) (same_order (threshold (reordered table)) (threshold_before table) same);
      base_samples = λ d. same_count (threshold (reordered table)) (threshold_before table) d 10 same;
    }

-- ** There and back

length_both : (words : List ℕ) → length (firsts words) + length (seconds words) ≡ length words
unfolding firsts seconds
length_both [] = refl
length_both (w ∷ []) = refl
length_both (w ∷ v ∷ words) = omega (arith, length_both words)

pub length_reordered : (table : List ℕ) → length (reordered table) ≡ length table
unfolding reordered
length_reordered table = length-append (firsts table) (seconds table) ∙ length_both table

in_turn_lem : (words : List ℕ) → in_turn (firsts words) (seconds words) ≡ words
unfolding firsts seconds in_turn
in_turn_lem [] = refl
in_turn_lem (w ∷ []) = refl
in_turn_lem (w ∷ v ∷ words) = ap (λ (l : List ℕ). w ∷ v ∷ l) (in_turn_lem words)

firsts_in_turn : (words others : List ℕ) → length words ≡ length others → firsts (in_turn words others) ≡ words
unfolding firsts in_turn
firsts_in_turn [] [] h = refl
firsts_in_turn [] (v ∷ others) h = absurd (omega (arith, h))
firsts_in_turn (w ∷ words) [] h = absurd (omega (arith, h))
firsts_in_turn (w ∷ words) (v ∷ others) h = ap (λ (l : List ℕ). w ∷ l) (firsts_in_turn words others (omega (arith, h)))

seconds_in_turn : (words others : List ℕ) → length words ≡ length others → seconds (in_turn words others) ≡ others
unfolding seconds in_turn
seconds_in_turn [] [] h = refl
seconds_in_turn [] (v ∷ others) h = absurd (omega (arith, h))
seconds_in_turn (w ∷ words) [] h = absurd (omega (arith, h))
seconds_in_turn (w ∷ words) (v ∷ others) h = ap (λ (l : List ℕ). v ∷ l) (seconds_in_turn words others (omega (arith, h)))

pub restored_inverse : RestoredInverse
unfolding reordered restored
restored_inverse table twenty =
    let ten = length_firsts table 10 twenty in
    let halves : length (take 10 table) ≡ length (drop 10 table) = rw (length-take-le 10 table (omega (arith, twenty)), length-drop 10 table, twenty) in
    record {
      back = ap₂ in_turn (take_at (firsts table) (seconds table) 10 ten) (drop_at (firsts table) (seconds table) 10 ten) ∙ in_turn_lem table;
      forth = ap₂ ◌++◌ (firsts_in_turn (take 10 table) (drop 10 table) halves) (seconds_in_turn (take 10 table) (drop 10 table) halves)
          ∙ take-append-drop 10 table;
    }
