-- `challenge::positions_below` meets its contract. Assumes nothing.
use Rattle.std.proofs.Common.{arith, rules, tests, refl, Bool, true, false, Decides, MatchBool, ℕ, ◌<◌, ◌≤◌, List, length, get_or}
use Rattle.std.specs.List.{AllWithin, HoldsAt}
use Rattle.std.proofs.lemmas.Bool.{false≢true}
use Rattle.std.proofs.lemmas.Bool.Decides.{same_from_decides, Decides-ltb}
use Rattle.std.proofs.lemmas.Iterator.{cases_from_all, YieldsList-from_slice}
use Rattle.challenge.specs.Challenge.{positions_below}
use Rattle.challenge.proofs.Positions.{all_decides}
use Rattle.challenge.proofs.positions_below.Goals as goal

decided : (r : Bool) (xs : List ℕ) (n : ℕ)
    → MatchBool r (AllWithin (λ x. x < n) xs 0 (length xs)) ((k : ℕ) × (k < length xs) × HoldsAt (λ x. n ≤ x) xs k)
    → Decides r ((k : ℕ) → k < length xs → get_or xs k 0 < n)
decided true xs n h = (λ e k g. h k 0 (omega arith) g, λ all. refl)
decided false xs n h = (λ e. absurd (false≢true e), λ all. absurd (omega (arith, h.2 0, all h.0 h.1)))

pub returns : goal.returns
unfolding positions_below
returns c =
    let xs = c.args.challenge.now in
    let n = c.args.n in
    let cases = cases_from_all _ _ c.all.result (λ x. x < n) (λ x. n ≤ x) c.all.ensures.ran (YieldsList-from_slice xs cc)
    (λ x q k. search (rules, tests)) (λ x q k. search (rules, tests)) in
    same_from_decides _ _ (decided _ xs n cases) (all_decides _ _ (length xs) (λ k. Decides-ltb (get_or xs k 0) n))
