-- `bits::first_eight` meets its contract. Assumes nothing.
use mathlib.Core.Path.{ap, ◌∙◌}
use Rattle.std.proofs.Common.{ℕ, List, arith, get_or}
use Rattle.std.proofs.lemmas.List.{get_or-take}
use Rattle.bits.proofs.Packing.{eight_numbers}
use Rattle.bits.proofs.first_eight.Goals as goal

pub returns-in-Some : goal.returns-in-Some
returns-in-Some c =
    let bytes = c.args.bytes.now in
    c.from_be_bytes.ensures
    ∙ eight_numbers bytes c.in-Some.eight.now (λ i. omega (arith, c.type_inv.bytes i)) (λ i l. ap (λ (eight : List ℕ). get_or eight i 0) c.in-Some.ensures.cases.same ∙ get_or-take 8 bytes i 0 l)

pub returns-in-None : goal.returns-in-None
returns-in-None c =
    c.from_be_bytes-in-None.ensures
    ∙ eight_numbers c.args.bytes.now c.padded.result (λ i. omega (arith, c.type_inv.bytes i)) c.padded.ensures
