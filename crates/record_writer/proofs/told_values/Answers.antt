-- `record_writer::told_values` meets its contract. Assumes nothing.
use mathlib.Core.List.{List}
use mathlib.Core.Path.{refl, ap, ◌∙◌}
use lib.IntN.{ℤ}
use denote.Ref.{Bor}
use Rattle.record_writer.proofs.WriteLaws.{items_lent}
use Rattle.record_writer.proofs.told_values.Goals as goal

pub returns : goal.returns
returns c = ap (λ (b : Bor (List ℤ)). b.now) c.unwrap_or.ensures ∙ items_lent c.args.values _ refl
