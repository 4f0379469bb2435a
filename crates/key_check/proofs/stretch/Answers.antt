-- `key_check::stretch` meets its contract: before a turn the sum is that of the products so far. Assumes nothing.
use Rattle.std.proofs.Common.{arith, ◌≡◌, ◌+◌, ◌<◌, ℕ, List, ℤ, pos, ◌+ℤ◌, ◌*ℤ◌, get_or, ap, ◌∙◌}
use Rattle.std.proofs.lemmas.List.{length_push}
use Rattle.std.proofs.lemmas.Slice.Zip.{zip_turn}
use mir.Syntax.{w32}
use mir.Val.{SFits, to_z, of_z}
use Rattle.signed.proofs.Signs.{read_back, fits_of_abs}
use Rattle.key_check.specs.Rows.{AreSmall, product_of}
use Rattle.key_check.proofs.Stretches.{Summed, product_small, summed_none, summed_more}
use Rattle.key_check.proofs.stretch.Goals as goal

-- ** One turn, over plain variables

module _ (a b : List ℤ) (a_small : AreSmall a) (b_small : AreSmall b) (p : ℕ) (x y : ℤ) (ex : x ≡ get_or a p (pos 0))
    (ey : y ≡ get_or b p (pos 0)) where
  -- the product, as the code has it
  product_is : to_z w32 (of_z w32 x) *ℤ to_z w32 (of_z w32 y) ≡ product_of a b p
  product_is =
      rw (
        ex,
        ey,
        read_back (fits_of_abs {w = w32} {z = get_or a p (pos 0)} (omega (arith, a_small p))),
        read_back (fits_of_abs {w = w32} {z = get_or b p (pos 0)} (omega (arith, b_small p))),
      )

  product_fits : SFits w32 (to_z w32 (of_z w32 x) *ℤ to_z w32 (of_z w32 y))
  product_fits = rw product_is (fits_of_abs (omega (arith, product_small a b a_small b_small p)))

  module _ (sum : ℤ) (s : Summed a b sum p) (few : p < 1024) where
    made : sum +ℤ to_z w32 (of_z w32 (to_z w32 (of_z w32 x) *ℤ to_z w32 (of_z w32 y))) ≡ sum +ℤ product_of a b p
    made = ap (λ (z : ℤ). sum +ℤ z) (read_back product_fits ∙ product_is)

    made_fits : SFits w32 (sum +ℤ to_z w32 (of_z w32 (to_z w32 (of_z w32 x) *ℤ to_z w32 (of_z w32 y))))
    made_fits = let more = (summed_more a b a_small b_small sum p s).few in rw made (fits_of_abs (omega arith))

    turned : Summed a b (to_z w32 (of_z w32 (sum +ℤ to_z w32 (of_z w32 (to_z w32 (of_z w32 x) *ℤ to_z w32 (of_z w32 y)))))) (p + 1)
    turned = rw (read_back made_fits, made) (summed_more a b a_small b_small sum p s)

-- ** What the code asks for

pub loop-x-init : goal.loop-x-init
loop-x-init c = summed_none c.args.a.now c.args.b.now c.requires.0 c.requires.1

pub overflow_mul-sum : goal.overflow_mul-sum
overflow_mul-sum c =
    let turn = zip_turn c.args.a.now c.args.b.now c.loop-x.yielded _ _ c.next.new.self _ (cc) (cc) c.loop-x.yielded_by _ c.in-Some.is c.next.ensures.steps in
    product_fits _ _ c.requires.0 c.requires.1 _ _ _ (turn.2 (pos 0)) (turn.3 (pos 0))

pub overflow_add-sum : goal.overflow_add-sum
overflow_add-sum c =
    let turn = zip_turn c.args.a.now c.args.b.now c.loop-x.yielded _ _ c.next.new.self _ (cc) (cc) c.loop-x.yielded_by _ c.in-Some.is c.next.ensures.steps in
    made_fits _ _ c.requires.0 c.requires.1 _ _ _ (turn.2 (pos 0)) (turn.3 (pos 0)) _ c.loop-x.invariant (omega (arith, turn.0, c.requires.3))

pub loop-x-preserved : goal.loop-x-preserved
loop-x-preserved c =
    let turn = zip_turn c.args.a.now c.args.b.now c.loop-x.yielded _ _ c.next.new.self _ (cc) (cc) c.loop-x.yielded_by _ c.in-Some.is c.next.ensures.steps in
    rw length_push
    (turned _ _ c.requires.0 c.requires.1 _ _ _ (turn.2 (pos 0)) (turn.3 (pos 0)) _ c.loop-x.invariant (omega (arith, turn.0, c.requires.3)))
