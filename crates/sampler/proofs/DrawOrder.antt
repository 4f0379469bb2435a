-- The samples and the entries of a draw stand in the order of its attempts. Assumes nothing.
use mathlib.Core.Path.{◌≡◌, refl, sym, ap, ap₂, ◌∙◌}
use mathlib.Core.Bool.{Bool, true, false, false≢true}
use mathlib.Core.List.{List, [], ◌∷◌, ◌++◌}
use Prim.Native.Nat.{ℕ, zero, suc, ◌+◌, ◌*◌, ◌<◌}
use native.Mathlib.Nat.{zero-add, add-zero, le_of_suc-le-suc, not-suc-le-zero}
use native.Mathlib.Numerals.{add-one}
use native.Mathlib.Omega.{arith}
use lib.IntN.{ℤ, pos}
use lib.ListN.{length, get_or, take, drop}
use lib.Seq.{take_at, drop-append-add, get_or-append-add}
use borrow.Author.Tests.{eq-eqb}
use Rattle.arithmetic.specs.Words.{bit}
use Rattle.read_list.specs.Entries.{entry}
use Rattle.attempt.specs.Attempt.{sample_at, attempt_entries}
use Rattle.attempt.proofs.AttemptLaws.{length_attempt}
use Rattle.sampler.specs.Draw.{accepted, samples_from, draw_y, entries_from, draw_entries, SamplesInOrder, DrawLists}
use Rattle.sampler.proofs.DrawTells.{length_draw_entries}

-- ** Samples

one_more : (m : ℕ) → 1 + m ≡ suc m
one_more m = omega arith

module _ (sample_of : ℕ → ℤ) where
  as_many : (t : ℕ) (bits : List Bool) → length (samples_from sample_of t bits) ≡ accepted bits
  unfolding samples_from accepted
  as_many t [] = refl
  as_many t (true ∷ bits) = ap suc (as_many (suc t) bits) ∙ sym (one_more (accepted bits))
  as_many t (false ∷ bits) = as_many (suc t) bits ∙ sym (zero-add (accepted bits))

  -- the sample of an accepted attempt stands behind those accepted before
  stands : (t : ℕ) (bits : List Bool) (k : ℕ) → k < length bits → get_or bits k false ≡ true
      → get_or (samples_from sample_of t bits) (accepted (take k bits)) (pos 0) ≡ sample_of (t + k)
  unfolding samples_from accepted
  stands t [] k h e = absurd (not-suc-le-zero h)
  stands t (true ∷ bits) zero h e = ap sample_of (sym (add-zero t))
  stands t (false ∷ bits) zero h e = absurd (false≢true e)
  stands t (true ∷ bits) (suc k) h e =
      rw (one_more (accepted (take k bits))) (stands (suc t) bits k (le_of_suc-le-suc h) e ∙ ap sample_of (omega arith))
  stands t (false ∷ bits) (suc k) h e =
      rw (zero-add (accepted (take k bits))) (stands (suc t) bits k (le_of_suc-le-suc h) e ∙ ap sample_of (omega arith))

pub samples_in_order : SamplesInOrder
unfolding draw_y
samples_in_order cdt words want bits full = rw (eq-eqb (accepted bits) want full) (record {
  as_many = as_many (sample_at cdt words) 0 bits;
  each = λ k h e. stands (sample_at cdt words) 0 bits k h e ∙ ap (sample_at cdt words) (zero-add k);
})

-- ** Entries

-- what stands behind the entries of an attempt
behind : (t before m : ℕ) (rest : List ℕ) → drop (46 + m) (attempt_entries t before ++ rest) ≡ drop m rest
behind t before m rest = rw (← length_attempt t before) (drop-append-add (attempt_entries t before) rest m)

behind_at : (t before m : ℕ) (rest : List ℕ) → get_or (attempt_entries t before ++ rest) (46 + m) 0 ≡ get_or rest m 0
behind_at t before m rest = rw (← length_attempt t before) (get_or-append-add (attempt_entries t before) rest m 0)

-- the entries of attempt k of those from t on
attempts_listed : (t before : ℕ) (bits : List Bool) (k : ℕ) → k < length bits
    → take 46 (drop (46 * k) (entries_from t before bits)) ≡ attempt_entries (t + k) (before + accepted (take k bits))
unfolding entries_from accepted
attempts_listed t before [] k h = absurd (not-suc-le-zero h)
attempts_listed t before (b ∷ bits) zero h =
    rw (add-zero t, add-zero before) (take_at (attempt_entries t before) _ 46 (length_attempt t before))
attempts_listed t before (b ∷ bits) (suc k) h =
    let next : 46 * suc k ≡ 46 + 46 * k = omega arith in
    rw (next, behind t before (46 * k)) (attempts_listed (suc t) (before + bit b) bits k (le_of_suc-le-suc h)
    ∙ ap₂ attempt_entries (omega arith) (omega arith))

last_listed : (t before : ℕ) (bits : List Bool) → get_or (entries_from t before bits) (46 * length bits) 0 ≡ entry 6 (before + accepted bits)
unfolding entries_from accepted
last_listed t before [] = rw (add-zero before)
last_listed t before (b ∷ bits) =
    let next : 46 * suc (length bits) ≡ 46 + 46 * length bits = omega arith in
    rw (next, behind_at t before (46 * length bits)) (last_listed (suc t) (before + bit b) bits ∙ ap (entry 6) (omega arith))

pub draw_lists : DrawLists
unfolding draw_entries
draw_lists n bits = record {
  count = length_draw_entries n bits;
  first = refl;
  attempts = λ k h. rw (add-one (46 * k)) (attempts_listed 0 0 bits k h ∙ ap₂ attempt_entries (zero-add k) (zero-add _));
  last = rw (add-one (46 * length bits)) (last_listed 0 0 bits ∙ ap (entry 6) (zero-add (accepted bits)));
}
