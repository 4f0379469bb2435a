-- `signed::all_within` meets its contract: that no value so far is outside, and that all others are within, says that all are within.
-- Assumes nothing.
use Rattle.std.proofs.Common.{arith, ◌≡◌, sym, ap, ◌∙◌, Bool, not, ◌&&◌, ◌||◌, leb, drop, get_or, ℕ, ◌<◌, ◌+◌, ◌^◌, ℤ, pos, nat_abs, ◌-ℤ◌, rules}
use Rattle.std.proofs.lemmas.Int.{ints}
use Rattle.std.proofs.lemmas.List.{at_drop_more, at_drop_all}
use Rattle.std.proofs.lemmas.Bool.Decides.{nat_tests}
use lib.Signed.{lt_z}
use mir.Syntax.{w32}
use mir.Val.{SFits, to_z, of_z}
use Rattle.signed.specs.Vectors.{all_within}
use Rattle.signed.proofs.all_within.Goals as goal

-- the two comparisons of a value, as the code has them
comparisons : (m : ℕ) (v : ℤ) → m < 2 ^ 16 → SFits w32 v
    → (lt_z (to_z w32 (of_z w32 v)) (to_z w32 (of_z w32 (pos 0 -ℤ to_z w32 m))) || lt_z (to_z w32 m) (to_z w32 (of_z w32 v)))
    ≡ not (leb (nat_abs v) m)
comparisons m v h f = grind (arith, ints, nat_tests)

joined : (o t r : Bool) → (not (o || not t) && r) ≡ (not o && (t && r))
joined o t r = grind arith

pub loop-v-preserved : goal.loop-v-preserved
unfolding all_within
loop-v-preserved c =
    let t = c.loop-v in
    let m = c.args.bound in
    let values = c.args.values.now in
    let v = get_or values t.v-index (pos 0) in
    let f : SFits w32 v = search rules in
    let first = at_drop_more (all_within m) values t.v-index (pos 0) c.loop-v-test.true in
    rw (comparisons m v c.requires f) (joined t.outside (leb (nat_abs v) m) (all_within m (drop (t.v-index + 1) values)) ∙ ap (λ (r : Bool). not t.outside && r) (sym first) ∙ t.invariant)

pub returns : goal.returns
unfolding all_within
returns c =
    let end = at_drop_all (all_within c.args.bound) c.args.values.now c.loop-v.v-index c.loop-v-test.false in
    grind (arith, c.loop-v.invariant)
