-- `signed::keep_all` meets its contract: after i turns the first i values are kept or zero, and the others stand. Assumes nothing.
use Rattle.std.proofs.Common.{◌≡◌, ap, ap₂, ◌∙◌, Bool, true, false, cond, List, ◌++◌, length, drop, set, replicate, get_or, ℕ, ◌<◌, ◌+◌, ℤ, pos, rules}
use lib.Seq.{set-get_or}
use mir.Syntax.{w32}
use mir.Val.{SFits}
use mir.ValLaws.{to_z-of_z}
use Rattle.lists.proofs.Filling.{fill_more}
use Rattle.signed.proofs.keep_all.Goals as goal

keep_more : (keep : Bool) (d values : List ℤ) (i : ℕ) (v : ℤ)
    → values ≡ cond keep d (replicate i (pos 0) ++ drop i d) → i < length d → v ≡ cond keep (get_or values i (pos 0)) (pos 0)
    → set values i v ≡ cond keep d (replicate (i + 1) (pos 0) ++ drop (i + 1) d)
keep_more true d values i v e h ev = ap (λ (x : ℤ). set values i x) ev ∙ set-get_or values i (pos 0) ∙ e
keep_more false d values i v e h ev = ap₂ (λ (l : List ℤ) (x : ℤ). set l i x) e ev ∙ fill_more i (pos 0) d h

pub loop-v-preserved : goal.loop-v-preserved
loop-v-preserved c =
    let t = c.loop-v in
    let i = t.v-index in
    let value : SFits w32 (get_or t.values i (pos 0)) = search rules in
    let stored : SFits w32 c.kept.result = search rules in
    let kept = simp to_z-of_z at c.kept.ensures in
    keep_more c.args.keep c.args.values.now t.values i _ t.invariant c.loop-v-test.true (rw to_z-of_z kept)
