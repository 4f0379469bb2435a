-- What a draw leaves once its attempts are made, full or spent. Assumes nothing.
use mathlib.Core.Path.{◌≡◌, sym, ap, ◌∙◌}
use mathlib.Core.Bool.{Bool}
use mathlib.Core.List.{List}
use Prim.Native.Nat.{ℕ, suc, ◌+◌, ◌*◌}
use native.Mathlib.Omega.{arith}
use lib.IntN.{ℤ, pos}
use lib.ListN.{length, set, replicate}
use lib.Seq.{take_all}
use borrow.Author.Tests.{eq-eqb, ne_eqb}
use Rattle.read_list.specs.Entries.{entry}
use Rattle.attempt.specs.Attempt.{sample_at}
use Rattle.sampler.specs.declared.Counts.{Counts}
use Rattle.sampler.specs.Draw.{accepted, entries_from, draw_entries, draw_y, sampled_by}
use Rattle.sampler.proofs.DrawByAttempts.{Attempted}

module _ (n : ℕ) (cdt words : List ℕ) {bits : List Bool} (list : List ℕ) {list₁ list' : List ℕ} {counts : Counts} {y : List ℤ}
    (first : list₁ ≡ set list 0 (entry 1 n))
    (r : Attempted (sample_at cdt words) bits list₁ counts y list')
    (same : length y ≡ 2 * n) where
  whole : (y' : List ℤ) → y' ≡ draw_y cdt words (2 * n) bits
      → record { counts = counts; y = y'; list = list' } ≡ sampled_by n cdt words bits list
  unfolding sampled_by draw_entries
  whole y' e =
      let more : 1 + length (entries_from 0 0 bits) ≡ suc (length (entries_from 0 0 bits)) = omega arith in
      rw (e, r.list_is, first, ← r.attempts_are, ← r.accepted_are, ← (r.entries_are ∙ more))

  pub full : counts.accepted ≡ 2 * n → record { counts = counts; y = y; list = list' } ≡ sampled_by n cdt words bits list
  unfolding draw_y
  full h =
      let t = eq-eqb (accepted bits) (2 * n) (sym r.accepted_are ∙ h) in
      whole y (rw t (sym (take_all counts.accepted y (omega arith)) ∙ r.samples_are))

  pub spent : (counts.accepted ≡ 2 * n → ⊥) → {y' : List ℤ} → y' ≡ replicate (length y) (pos 0)
      → record { counts = counts; y = y'; list = list' } ≡ sampled_by n cdt words bits list
  unfolding draw_y
  spent h {y'} z =
      let t = ne_eqb (accepted bits) (2 * n) (λ e. h (r.accepted_are ∙ e)) in
      whole y' (rw t (z ∙ ap (λ (m : ℕ). replicate m (pos 0)) same))
