-- The attempts of a draw, as its loop makes them: what is done and what is left give the whole. Assumes nothing.
use mathlib.Core.Path.{◌≡◌, refl, sym, ap, ◌∙◌}
use mathlib.Core.Bool.{Bool, true, false, ◌&&◌}
use mathlib.Core.List.{List, [], ◌∷◌, ◌++◌, append_assoc, append-nil}
use Prim.Native.Nat.{ℕ, suc, ◌+◌, ◌*◌, ◌≤◌, ◌<◌}
use native.Mathlib.Nat.{add-zero, sub-zero}
use native.Mathlib.Numerals.{add-one}
use native.Mathlib.Omega.{arith}
use lib.Dec.{ltb}
use lib.IntN.{ℤ}
use lib.ListN.{length, set, take, length-set}
use lib.Seq.{sets, length-sets, take-set-le, take-suc-set}
use Rattle.arithmetic.specs.Words.{bit}
use Rattle.arithmetic.proofs.Bits.{bit_le}
use Rattle.read_list.specs.Entries.{entry}
use Rattle.read_list.proofs.Written.{sets_sets}
use Rattle.attempt.specs.Attempt.{attempt_entries}
use Rattle.attempt.proofs.AttemptLaws.{length_attempt}
use Rattle.sampler.specs.declared.Counts.{Counts}
use Rattle.sampler.specs.Draw.{bits_from, accepted, samples_from, entries_from}
use Rattle.sampler.proofs.DrawTells.{length_entries}
use Rattle.sampler.proofs.BitsLeft.{bits_left, left_next, left_none}

-- ** Samples and entries

-- the sample is stored always, and counts where its bit is 1
stored : (g : ℕ → ℤ) (y : List ℤ) (t k : ℕ) (b : Bool) (bits : List Bool) → k < length y
    → take (k + bit b) (set y k (g t)) ++ samples_from g (t + 1) bits ≡ take k y ++ samples_from g t (b ∷ bits)
unfolding samples_from
stored g y t k true bits h =
    rw (add-one k, add-one t, take-suc-set y k (g t) h) (append_assoc (take k y) (g t ∷ []) (samples_from g (suc t) bits))
stored g y t k false bits h = rw (add-zero k, add-one t, take-set-le k y k (g t) (omega arith))

entries_next : (l : List ℕ) (t k at : ℕ) (b : Bool) (bits : List Bool)
    → sets (sets l at (attempt_entries t k)) (at + 46) (entries_from (t + 1) (k + bit b) bits)
    ≡ sets l at (entries_from t k (b ∷ bits))
unfolding entries_from
entries_next l t k at b bits = rw (add-one t) (sets_sets l at _ (attempt_entries t k) _ (omega (arith, length_attempt t k)))

-- ** The loop

-- what the attempts of a draw with these bits leave, whether it is full or spent: the samples are the first of y
pub record Attempted (sample_of : ℕ → ℤ) (bits : List Bool) (before : List ℕ)
    (counts : Counts) (y : List ℤ) (list : List ℕ) : Type 0 where
  pub attempts_are : counts.attempts ≡ length bits
  pub accepted_are : counts.accepted ≡ accepted bits
  pub entries_are : counts.entries ≡ 1 + length (entries_from 0 0 bits)
  pub samples_are : take counts.accepted y ≡ samples_from sample_of 0 bits
  pub list_is : list ≡ sets before 1 (entries_from 0 0 bits)

-- after t attempts with k samples accepted, what is done and what the bits left give are the whole
pub record Turn (f : ℕ → Bool) (g : ℕ → ℤ) (want limit : ℕ) (y₀ : List ℤ) (list₀ : List ℕ)
    (y : List ℤ) (list : List ℕ) (t k at : ℕ) : Type 0 where
  pub made : t ≤ limit
  pub kept : k ≤ want
  pub here : at ≡ 46 * t + 1
  pub same_y : length y ≡ length y₀
  pub same_list : length list ≡ length list₀
  pub attempts_are : t + length (bits_left f want limit t k) ≡ length (bits_from f 0 limit want)
  pub accepted_are : k + accepted (bits_left f want limit t k) ≡ accepted (bits_from f 0 limit want)
  pub samples_are : take k y ++ samples_from g t (bits_left f want limit t k) ≡ samples_from g 0 (bits_from f 0 limit want)
  pub list_is : sets list at (entries_from t k (bits_left f want limit t k))
      ≡ sets list₀ 1 (entries_from 0 0 (bits_from f 0 limit want))

pub turn_start : (f : ℕ → Bool) (g : ℕ → ℤ) (want limit : ℕ) (y : List ℤ) (list : List ℕ)
    → Turn f g want limit y list y list 0 0 1
turn_start f g want limit y list =
    let a = sub-zero limit in
    let b = sub-zero want in
    record {
      made = omega arith;
      kept = omega arith;
      here = omega arith;
      same_y = refl;
      same_list = refl;
      attempts_are = rw (a, b) (omega arith);
      accepted_are = rw (a, b) (omega arith);
      samples_are = rw (a, b);
      list_is = rw (a, b);
    }

module _ {f : ℕ → Bool} {g : ℕ → ℤ} {want limit : ℕ} {y₀ : List ℤ} {list₀ : List ℕ} {y : List ℤ} {list : List ℕ} {t k at : ℕ}
    (r : Turn f g want limit y₀ list₀ y list t k at) where
  pub turn_more : {y' : List ℤ} {list' : List ℕ} {b : Bool} → t < limit → k < want → want ≤ length y₀
      → b ≡ f t → y' ≡ set y k (g t) → list' ≡ sets list at (attempt_entries t k)
      → Turn f g want limit y₀ list₀ y' list' (t + 1) (k + bit b) (at + 46)
  unfolding accepted
  turn_more {b = b} h w l eb ey el =
      let next : bits_left f want limit t k ≡ b ∷ bits_left f want limit (t + 1) (k + bit b) =
      left_next f want limit t k h w ∙ ap (λ (x : Bool). x ∷ bits_left f want limit (t + 1) (k + bit x)) (sym eb) in
      let s = bit_le b in
      record {
        made = omega arith;
        kept = omega arith;
        here = omega (arith, r.here);
        same_y = rw (ey, length-set) r.same_y;
        same_list = rw (el, length-sets) r.same_list;
        attempts_are = omega (arith, ap length next, r.attempts_are);
        accepted_are = omega (arith, ap accepted next, r.accepted_are);
        samples_are = rw ey (stored g y t k b _ (omega (arith, r.same_y)) ∙ (rw next at r.samples_are));
        list_is = rw el (entries_next list t k at b _ ∙ (rw next at r.list_is));
      }

  pub turn_end : {list' : List ℕ} → (ltb t limit && ltb k want) ≡ false → list' ≡ set list at (entry 6 k)
      → Attempted g (bits_from f 0 limit want) list₀ (record { attempts = t; accepted = k; entries = at + 1 }) y list'
  unfolding accepted samples_from entries_from
  turn_end h el =
      let none = left_none f want limit t k h in
      let all : t ≡ length (bits_from f 0 limit want) = omega (arith, ap length none, r.attempts_are) in
      record {
        attempts_are = all;
        accepted_are = omega (arith, ap accepted none, r.accepted_are);
        entries_are = omega (arith, all, r.here, length_entries (bits_from f 0 limit want) 0 0);
        samples_are = sym (append-nil (take k y)) ∙ (rw none at r.samples_are);
        list_is = el ∙ (rw none at r.list_is);
      }
