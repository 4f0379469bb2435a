-- `challenge::ascending` meets its contract. Assumes nothing.
use Rattle.std.proofs.Common.{arith, Decides, ℕ, suc, ◌+◌, ◌<◌, ◌-◌, length, get_or, add-one}
use Rattle.std.proofs.lemmas.Grind.{common_steps}
use Rattle.std.proofs.lemmas.Bool.Decides.{same_from_decides, Decides-ltb, Decides-like}
use Rattle.challenge.specs.Challenge.{ascends}
use Rattle.challenge.proofs.Positions.{all_decides}
use Rattle.challenge.proofs.ascending.Goals as goal

pub returns : goal.returns
unfolding ascends
returns c =
    let xs = c.args.challenge.now in
    let each : Decides c.all.result ((k : ℕ) → k + 1 < length xs → get_or xs k 0 < get_or xs (k + 1) 0) = grind (arith, common_steps) in
    same_from_decides _ _
    (Decides-like _ (λ h k g. rw add-one at (h k (omega arith))) (λ h k g. rw add-one (h k (omega arith))) each)
    (all_decides _ _ (length xs - 1) (λ k. Decides-ltb (get_or xs k 0) (get_or xs (suc k) 0)))
