use Prim.Native.Nat.{◌-◌}
use Rattle.exponential.specs.Exponential.{exp_scaled}
use Rattle.attempt.specs.Attempt.{bit_at, sample_at}
use Rattle.sampler.proofs.DrawByAttempts.{Turn}
use Rattle.sampler.proofs.draw.Given as goal

abbrev pub invariant-loop-t : goal.invariant-loop-t
invariant-loop-t l =
    Turn (bit_at (exp_scaled l.tables.exponential.table.now l.tables.exponential.reciprocal) l.tables.cdt.words.now l.words) (sample_at l.tables.cdt.words.now l.words) l.want l.limit l.initial.y l.initial.list l.y l.list l.t l.k l.at

abbrev pub decreases-loop-t : goal.decreases-loop-t
decreases-loop-t l = l.limit - l.t
