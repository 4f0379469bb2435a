-- `exponential::evaluate` meets its contract. Assumes nothing.
use mathlib.Core.Path.{◌≡◌, refl, ◌∙◌}
use Prim.Native.Nat.{suc, ◌-◌, ◌<◌}
use native.Mathlib.Omega.{arith}
use lib.ListN.{length-set}
use Rattle.read_list.proofs.Runs.{places_down_step, places_down_end}
use Rattle.exponential.proofs.Steps.{table_length}
use Rattle.exponential.proofs.Steps.{evaluating_starts, evaluating_asks, evaluating_goes_on, evaluating_ends}
use Rattle.exponential.proofs.evaluate.Goals as goal

pub loop-j-init : goal.loop-j-init
loop-j-init c = record { evaluating = evaluating_starts c.args.table.now c.args.v; same = refl; entries = refl }

pub listed-entry-requires : goal.listed-entry-requires
listed-entry-requires c =
    (omega (arith, table_length c.args.table.now c.requires.0, c.loop-j.invariant.evaluating.count), omega (arith, c.loop-j.invariant.evaluating.count))

pub next_value-a-requires : goal.next_value-a-requires
next_value-a-requires c =
    let asks = evaluating_asks c.requires.0 c.loop-j-test.true c.loop-j.invariant.evaluating in
    rw (c.listed-entry.ensures.value 0) (asks.0, asks.1, c.requires.1)

pub loop-j-preserved : goal.loop-j-preserved
loop-j-preserved c =
    let t = c.loop-j in
    let more : 0 < t.j = c.loop-j-test.true in
    let count = t.invariant.evaluating.count in
    let here : 20 - (t.j - 1) ≡ 21 - t.j = omega (arith, more, count) in
    let next : 21 - (t.j - 1) ≡ suc (21 - t.j) = omega (arith, more, count) in
    record {
      evaluating =
          rw (c.next_value-a.ensures, c.listed-entry.ensures.value 0) (evaluating_goes_on c.requires.0 more t.invariant.evaluating);
      same = length-set t.list _ _ ∙ t.invariant.same;
      entries = rw (here, next, c.listed-entry.ensures.entry_after) (places_down_step 4 t.list (21 - t.j) t.j more ∙ t.invariant.entries);
    }

pub returns : goal.returns
returns c =
    let t = c.loop-j in
    let value = evaluating_ends c.loop-j-test.false t.invariant.evaluating in
    (value.0, value.1, places_down_end 4 t.list (21 - t.j) t.j c.loop-j-test.false ∙ t.invariant.entries)
