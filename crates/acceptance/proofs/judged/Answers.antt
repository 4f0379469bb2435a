-- `acceptance::judged` meets its contract: the tests are those of the definition. Assumes nothing.
use mathlib.Core.Path.{◌≡◌, ap, ap₂, ◌∙◌}
use Prim.Native.Nat.{ℕ, ◌-◌, ◌*◌, ◌^◌, ◌<◌, min}
use native.Mathlib.Omega.{arith}
use lib.IntN.{ℤ, nat_abs}
use mir.Syntax.{w64}
use mir.Val.{to_z, of_z, SFits}
use Rattle.signed.proofs.Signs.{fits_of_abs, read_back}
use Rattle.exponential.specs.Exponential.{exp_scaled, limit}
use Rattle.acceptance.specs.Acceptance.{squares_limit, accepts_by, all_pass}
use Rattle.acceptance.proofs.Judging.{first_exponent_lem, judging_written}
use Rattle.acceptance.proofs.judged.Goals as goal

-- the size of I, which is small, so that it is read from its bits as it is
size : (inner : ℤ) (n : ℕ) → nat_abs inner < 2 ^ 60 → n ≡ nat_abs (to_z w64 (of_z w64 inner)) → n ≡ nat_abs inner
size inner n h e =
    let small : SFits w64 inner = fits_of_abs (omega arith) in
    e ∙ ap nat_abs (read_back small)

pub returns : goal.returns
unfolding accepts_by
returns c =
    let e = exp_scaled c.args.exponential.table.now c.args.exponential.reciprocal in
    let first = ap (λ (k : ℕ). squares_limit - k) c.smaller-first_exponent.ensures ∙ first_exponent_lem c.args.m.squares in
    let abs = size c.args.m.inner _ c.requires.1 c.size_of.ensures in
    let second = c.smaller-second_exponent.ensures ∙ ap (λ (k : ℕ). min (2 * k) limit) abs in
    let e1 = c.listed-e1.ensures in
    let e2 = c.listed-e2.ensures in
    record {
      value = c.all_pass-accepted.ensures ∙ ap₂ (all_pass c.args.m) (e1.0 ∙ ap e first) (e2.0 ∙ ap e second);
      list_after = judging_written c.all_pass-accepted.result c.args.list.now c.requires.2 e1.2 e2.2 c.note.ensures;
    }
