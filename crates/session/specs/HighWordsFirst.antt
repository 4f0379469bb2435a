-- Request S-6, as the caller sees it: a draw that is lent the reordering of a table does what it did with the table by document 01's order.
-- Assumes nothing.
use Rattle.std.specs.Prelude.{◌≡◌, Bool, List, ℕ, ◌+◌, ◌*◌, ◌<◌, pos, length, replicate}
use Rattle.std.proofs.lemmas.List.Edits.{sets}
use Rattle.deviations.specs.Deviations.{exp_at}
use Rattle.base_sample.specs.HighWordsFirst.{base_sample_before, reordered}
use Rattle.attempt.specs.Attempt.{bit_by, sample_by}
use Rattle.sampler.specs.Draw.{bits_from, accepted, samples_from, draw_entries}
use Rattle.refusals.specs.Refusals.{draw_refusal_before}
use Rattle.session.specs.declared.Session.{Session}
use Rattle.session.specs.Calls.{Draw, DrawLeft, bits_of_draw, drawn_served, draw_left}

-- ** Refusals

-- its refusal is the one that document 01's order gave with the table, or none where that gave none
abbrev pub DrawRefusedAsBefore : Type 0
DrawRefusedAsBefore =
    (s : Session) (d : Draw) (table : List ℕ) → d.cdt ≡ reordered table →
    (draw_left s d).drawn.answer.refusal
    ≡ draw_refusal_before s.degree s.deviation d.limit table d.polynomial (length d.words) (length d.y) (length d.list)

-- ** A draw that is served

-- these are the bits of its attempts, where each draw has the base sample that x gives it; its answer counts them, y has the samples that
-- are accepted, and the list the entries
pub record DrawnBy (x : ℕ → ℕ) (s : Session) (d : Draw) (left : DrawLeft) (bits : List Bool) : Type 0 where
  pub bits_by : bits ≡ bits_from (bit_by (exp_at s.deviation) x d.words) 0 d.limit (2 * s.degree)
  pub drawn : left.drawn
      ≡ drawn_served s (record { attempts = length bits; accepted = accepted bits; entries = 46 * length bits + 2 })
  pub full : accepted bits ≡ 2 * s.degree → left.y ≡ samples_from (sample_by x d.words) 0 bits
  pub spent : accepted bits < 2 * s.degree → left.y ≡ replicate (2 * s.degree) (pos 0)
  pub list : left.list ≡ sets d.list 0 (draw_entries s.degree bits)

-- so it is by the base samples that document 01's order gave with the table
abbrev pub DrawnAsBefore : Type 0
DrawnAsBefore =
    (s : Session) (d : Draw) (table : List ℕ) → d.cdt ≡ reordered table → let left = draw_left s d in
    left.drawn.answer.refusal ≡ 0 → DrawnBy (base_sample_before table) s d left (bits_of_draw s d)
