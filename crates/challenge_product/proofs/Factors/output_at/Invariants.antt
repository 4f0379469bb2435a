use Rattle.challenge_product.proofs.OutputByPositions.{Summed}
use Rattle.challenge_product.proofs.Factors.output_at.Given as goal

abbrev pub invariant-loop-k : goal.invariant-loop-k
invariant-loop-k l = Summed l.self.key.now l.self.degree l.base l.i l.self.challenge.now l.initial.list l.list l.sum l.k
