-- `challenge_product::Factors::output_at` meets its contract: after k positions the sum and what the others add are the output. Assumes nothing.
use mathlib.Core.Path.{◌≡◌, ap, ◌∙◌}
use Prim.Native.Nat.{◌≤◌}
use native.Mathlib.Omega.{arith}
use lib.IntN.{ℤ, nat_abs, ◌+ℤ◌}
use lib.ListN.{set}
use mir.Syntax.{w32}
use mir.Val.{to_z, of_z}
use Rattle.signed.proofs.Signs.{read_back}
use Rattle.challenge.proofs.Positions.{position_below}
use Rattle.challenge_product.proofs.ProductSizes.{term_within}
use Rattle.challenge_product.proofs.OutputByPositions.{sum_more, sum_end}
use Rattle.challenge_product.proofs.Factors.output_at.Goals as goal
use Rattle.challenge_product.proofs.Factors.output_at.Goals.{After-term_at-term}

-- ** What is known in a turn

module _ (c : After-term_at-term) where
  -- what the position adds is read back as it is
  term_is : to_z w32 (of_z w32 c.term_at-term.result) ≡ c.term_at-term.result
  term_is = read_back {w = w32} (record { sfits = c.term_at-term.type_inv })

  -- and small
  term_small : nat_abs c.term_at-term.result ≤ 7
  term_small =
      let a = c.args in
      rw c.term_at-term.ensures.0 (term_within a.self.key.now a.self.degree a.base a.i _ 7 c.args.self.small)

-- ** What the code asks for

pub term_at-term-requires : goal.term_at-term-requires
term_at-term-requires c =
    let l = c.loop-k in
    let p = c.args.self in
    let below = position_below c.args.self.degree c.args.self.challenge.now l.k p.below c.loop-k-test.true in
    (c.requires.0, c.requires.1, below)

pub plus-sum-requires : goal.plus-sum-requires
plus-sum-requires c =
    let here = (goal.at.plus-sum-requires c).After-term_at-term in
    let sum = c.loop-k.invariant in
    rw (term_is here) (omega (arith, term_small here, sum.small, sum.turns))

pub loop-k-preserved : goal.loop-k-preserved
loop-k-preserved c =
    let l = c.loop-k in
    let term = ap (λ (r : ℤ). to_z w32 l.sum-bits +ℤ r) (term_is (goal.at.loop-k-preserved c).After-term_at-term ∙ c.term_at-term.ensures.0) in
    sum_more l.invariant c.loop-k-test.true c.args.self.small (ap (set l.list l.k) c.term_at-term.ensures.1)
    (read_back {w = w32} (record { sfits = c.plus-sum.type_inv }) ∙ c.plus-sum.ensures ∙ term)

pub returns : goal.returns
returns c = sum_end c.loop-k.invariant c.loop-k-test.false
