-- `challenge_product::Factors::term_at` meets its contract: the position wraps or not. Assumes nothing.
use borrow.Author.Tests.{le-leb, lt-leb}
use mathlib.Core.Path.{ap, ◌∙◌}
use native.Mathlib.Nat.{lt_of_le_of_lt}
use lib.Dec.{lit≤}
use lib.IntN.{pos, neg_ℤ}
use mir.Syntax.{w32}
use mir.Val.{to_z, of_z}
use Rattle.signed.proofs.Signs.{read_back, zero_minus, zero_minus_fits}
use Rattle.signed.proofs.Vectors.{within_at}
use Rattle.challenge_product.specs.Product.{term_at}
use Rattle.challenge_product.proofs.Factors.term_at.Goals as goal

-- ** The position does not wrap

pub returns-then-c-i : goal.returns-then-c-i
unfolding term_at
returns-then-c-i c =
    let a = c.args in
    let v = c.listed in
    rw (le-leb a.c a.i c.if-c-i.true) (read_back {w = w32} (record { sfits = v.type_inv }) ∙ v.ensures.value (pos 0), v.ensures.entry_after)

-- ** The position wraps

pub overflow_sub-result : goal.overflow_sub-result
overflow_sub-result c =
    let v = c.listed-value in
    zero_minus_fits (to_z w32 (of_z w32 v.result))
    (rw (read_back {w = w32} (record { sfits = v.type_inv }), v.ensures.value (pos 0)) (lt_of_le_of_lt (within_at 7 c.args.self.key.now c.args.self.small _) (lit≤ tt)))

pub returns : goal.returns
unfolding term_at
returns c =
    let a = c.args in
    let v = c.listed-value in
    let value = read_back {w = w32} (record { sfits = v.type_inv }) ∙ v.ensures.value (pos 0) in
    rw (lt-leb a.c a.i c.if-c-i.false)
    (read_back (overflow_sub-result c) ∙ zero_minus (to_z w32 (of_z w32 v.result)) ∙ ap neg_ℤ value, v.ensures.entry_after)
