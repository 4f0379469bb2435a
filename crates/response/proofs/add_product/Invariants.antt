use Rattle.response.specs.Response.{subtracts, response_of}
use Rattle.response.proofs.Passes.{Added}
use Rattle.response.proofs.add_product.Given as goal

abbrev pub invariant-loop-i : goal.invariant-loop-i
invariant-loop-i l = Added (response_of (subtracts l.word) l.y l.initial.z) l.initial.z l.z l.norm l.inner l.i
