-- A draw gives the same where what is lent agrees on its entries. Assumes nothing.
use mathlib.Core.Path.{◌≡◌, refl, ap, ap₂, ◌∙◌}
use mathlib.Core.Bool.{Bool, cond}
use mathlib.Core.List.{List, ◌∷◌}
use Prim.Native.Nat.{ℕ, zero, suc, ◌+◌, ◌*◌, ◌^◌, ◌≤◌}
use native.Mathlib.Omega.{arith}
use lib.IntN.{ℤ}
use Rattle.read_list.specs.Agreement.{Lent, Agree}
use Rattle.read_list.proofs.Agreement.{agree_first, agree_rest, agree_tail}
use Rattle.attempt.specs.Attempt.{bit_at, sample_at, attempt_entries}
use Rattle.attempt.proofs.Agreement.{same_bit, same_sample}
use Rattle.sampler.specs.Draw.{still_wanted, bits_from, draw_bits, samples_from, draw_y, entries_from, draw_entries}

-- the bits of the attempts from t on, and the samples that are accepted
record SameFrom (bit_of bit_of' : ℕ → Bool) (sample_of sample_of' : ℕ → ℤ) (t left wanted : ℕ) : Type 0 where
  bits : bits_from bit_of t left wanted ≡ bits_from bit_of' t left wanted
  samples : samples_from sample_of t (bits_from bit_of t left wanted) ≡ samples_from sample_of' t (bits_from bit_of t left wanted)

module _ (e : ℕ → ℕ) {a b : Lent} where
  same_from : (t before left wanted : ℕ) → 4 * (t + left) ≤ 2 ^ 24
      → Agree a b (entries_from t before (bits_from (bit_at e a.cdt a.words) t left wanted))
      → SameFrom (bit_at e a.cdt a.words) (bit_at e b.cdt b.words)
      (sample_at a.cdt a.words) (sample_at b.cdt b.words) t left wanted
  unfolding bits_from samples_from entries_from
  same_from t before zero wanted h same = record { bits = refl; samples = refl }
  same_from t before (suc left) zero h same = record { bits = refl; samples = refl }
  same_from t before (suc left) (suc wanted) h same =
      let one = bit_at e a.cdt a.words t in
      let here = agree_first (attempt_entries t _) _ same in
      let here_bit = same_bit t _ (omega arith) here e in
      let here_sample = same_sample t _ (omega arith) here in
      let later = same_from (suc t) _ left (still_wanted one wanted) (omega arith) (agree_rest (attempt_entries t _) _ same) in
      let by_bit = ap (λ (x : Bool). bits_from (bit_at e b.cdt b.words) (suc t) left (still_wanted x wanted)) here_bit in
      record {
        bits = ap₂ ◌∷◌ here_bit (later.bits ∙ by_bit);
        samples = ap₂ (λ (x : ℤ) (xs : List ℤ). cond one (x ∷ xs) xs) here_sample later.samples;
      }

-- a draw whose words are named by places below 2 ^ 24
module _ (e : ℕ → ℕ) {a b : Lent} (n limit want : ℕ) (h : 4 * limit ≤ 2 ^ 24)
    (same : Agree a b (draw_entries n (draw_bits e a.cdt a.words limit want))) where
  whole :
      SameFrom (bit_at e a.cdt a.words) (bit_at e b.cdt b.words)
      (sample_at a.cdt a.words) (sample_at b.cdt b.words) 0 limit want
  unfolding draw_entries draw_bits
  whole = same_from e 0 0 limit want (omega arith) (agree_tail same)

  pub same_bits : draw_bits e a.cdt a.words limit want ≡ draw_bits e b.cdt b.words limit want
  unfolding draw_bits
  same_bits = whole.bits

  pub same_y :
      draw_y a.cdt a.words want (draw_bits e a.cdt a.words limit want)
      ≡ draw_y b.cdt b.words want (draw_bits e b.cdt b.words limit want)
  unfolding draw_bits draw_y
  same_y = rw (whole.samples, whole.bits)
