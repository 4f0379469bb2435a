use Rattle.challenge_product.proofs.HalfByOutputs.{Halved}
use Rattle.challenge_product.proofs.Factors.half.Given as goal

abbrev pub invariant-loop-i : goal.invariant-loop-i
invariant-loop-i l = Halved l.self.key.now l.self.degree l.base l.self.challenge.now l.initial.z l.initial.list l.z l.list l.squares l.i
