-- `attempt::Tables::attempt` meets its contract. Assumes nothing.
use mathlib.Core.Path.{◌≡◌, ap, ◌∙◌}
use Prim.Native.Nat.{ℕ, ◌+◌, ◌*◌, ◌%◌, ◌^◌, ◌<◌}
use native.Mathlib.Nat.{add-zero}
use native.Mathlib.Omega.{arith}
use lib.IntN.{ℤ}
use lib.ListN.{get_or, set}
use lib.Seq.{get_or-take}
use Rattle.std.proofs.lemmas.List.{get_or-drop}
use Rattle.exponential.specs.Exponential.{exp_scaled}
use Rattle.attempt.proofs.AttemptLaws.{bit_at_lem, sample_at_lem, attempt_written}
use Rattle.attempt.proofs.Tables.attempt.Goals as goal
use Rattle.attempt.proofs.Tables.attempt.Goals.{After-judged}

module _ (c : After-judged) where
  word : (i : ℕ) → i < 4 → get_or c.listed_words.result i 0 ≡ get_or c.args.words.now (4 * c.args.t + i) 0
  word i h = rw c.listed_words.ensures.words (get_or-take 4 _ i 0 h ∙ get_or-drop (4 * c.args.t) c.args.words.now i 0)

  first : c.low_bits.result ≡ get_or c.args.words.now (4 * c.args.t) 0 % 2 ^ 62
  first = c.low_bits.ensures ∙ ap (λ (w : ℕ). w % 2 ^ 62) (word 0 (omega arith) ∙ ap (λ (i : ℕ). get_or c.args.words.now i 0) (add-zero _))

  second : c.low_bits-2.result ≡ get_or c.args.words.now (4 * c.args.t + 1) 0 % 2 ^ 62
  second = c.low_bits-2.ensures ∙ ap (λ (w : ℕ). w % 2 ^ 62) (word 1 (omega arith))

pub returns-clause-value : goal.returns-clause-value
returns-clause-value c =
    let s = c.args in
    let at = (goal.at.returns-clause-value c).After-judged in
    bit_at_lem s.self.cdt.words.now s.words.now s.t _ _ _ _ _ (first at) (second at) (word at 2 (omega arith)) (word at 3 (omega arith)) c.scan-x.ensures.0
    (exp_scaled s.self.exponential.table.now s.self.exponential.reciprocal) _ _ _ c.exponent_of-n.ensures.0 c.listed-e.ensures.0 c.judged.ensures.value

pub returns-clause-y_after : goal.returns-clause-y_after
returns-clause-y_after c =
    let s = c.args in
    let at = (goal.at.returns-clause-y_after c).After-judged in
    ap (λ (z : ℤ). set s.y.now s.k z) (c.judged.ensures.sample_after
    ∙ sample_at_lem s.self.cdt.words.now s.words.now s.t _ _ _ _ _ (first at) (second at) (word at 2 (omega arith)) (word at 3 (omega arith)) c.scan-x.ensures.0)

pub returns-clause-list_after : goal.returns-clause-list_after
returns-clause-list_after c =
    attempt_written c.args.list.now c.listed_words.new.list c.scan-x.new.list c.listed-e.new.list _ c.args.t c.args.k (omega arith)
    c.listed_words.ensures.list_after c.scan-x.ensures.2 c.listed-e.ensures.2 c.note.ensures
