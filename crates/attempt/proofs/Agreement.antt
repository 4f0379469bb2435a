-- An attempt gives the same where what is lent agrees on its entries. Assumes nothing.
use mathlib.Core.Path.{◌≡◌, ap}
use Prim.Native.Nat.{ℕ, ◌+◌, ◌*◌, ◌^◌, ◌≤◌, ◌<◌}
use native.Mathlib.Omega.{arith}
use lib.ListN.{get_or}
use Rattle.arithmetic.specs.Words.{low62_of}
use Rattle.read_list.specs.Entries.{places_up}
use Rattle.read_list.specs.Agreement.{Lent, Agree}
use Rattle.read_list.proofs.Agreement.{agree_first, agree_rest, agree_places_up, same_word, same_cdt_word}
use Rattle.base_sample.specs.BaseSample.{base_sample}
use Rattle.base_sample.proofs.Agreement.{same_base_sample}
use Rattle.attempt.specs.Attempt.{draw_at, uniform_at, bit_at, sample_at, attempt_entries}

-- attempt t, whose words are named by places below 2 ^ 24
module _ {a b : Lent} (t before : ℕ) (h : 4 * t + 4 ≤ 2 ^ 24) (same : Agree a b (attempt_entries t before)) where
  word : (p : ℕ) → 4 * t ≤ p → p < 4 * t + 4 → get_or a.words p 0 ≡ get_or b.words p 0
  unfolding attempt_entries
  word p l g = same_word p (omega arith) (agree_places_up 2 (4 * t) 4 (agree_first (places_up 2 (4 * t) 4) _ same) p l g)

  cdt_word : (p : ℕ) → p < 20 → get_or a.cdt p 0 ≡ get_or b.cdt p 0
  unfolding attempt_entries
  cdt_word p g =
      let later = agree_rest (places_up 2 (4 * t) 4) _ same in
      same_cdt_word p (omega arith) (agree_places_up 3 0 20 (agree_first (places_up 3 0 20) _ later) p (omega arith) (omega arith))

  base_sample_lem : base_sample a.cdt (draw_at a.words t) ≡ base_sample b.cdt (draw_at b.words t)
  base_sample_lem =
      rw (word (4 * t) (omega arith) (omega arith), word (4 * t + 1) (omega arith) (omega arith))
      (same_base_sample a.cdt b.cdt (draw_at b.words t) cdt_word)

  uniform : uniform_at a.words t ≡ uniform_at b.words t
  uniform = ap low62_of (word (4 * t + 3) (omega arith) (omega arith))

  pub same_bit : (e : ℕ → ℕ) → bit_at e a.cdt a.words t ≡ bit_at e b.cdt b.words t
  unfolding bit_at
  same_bit e = rw (base_sample_lem, word (4 * t + 2) (omega arith) (omega arith), uniform)

  pub same_sample : sample_at a.cdt a.words t ≡ sample_at b.cdt b.words t
  unfolding sample_at
  same_sample = rw (base_sample_lem, word (4 * t + 2) (omega arith) (omega arith))
