-- `refusals::respond_refusal` meets its contract: behind its own tests stand those of the noise. Assumes nothing.
use native.Mathlib.Omega.{arith}
use Rattle.std.proofs.lemmas.Grind.{common_steps}
use Rattle.checks.specs.Checks.{first_refusal}
use Rattle.refusals.specs.Refusals.{noise_refusal, respond_refusal}
use Rattle.refusals.proofs.respond_refusal.Goals as goal

pub returns : goal.returns
unfolding noise_refusal respond_refusal first_refusal
returns c = grind (arith, common_steps)
