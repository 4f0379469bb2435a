-- `read_list::listed_words` meets its contract: after i turns the first i words are held, and their entries are listed. Assumes nothing.
use mathlib.Core.Path.{◌≡◌, refl, sym, ap, ap₂, ◌∙◌}
use mathlib.Core.List.{List, [], ◌∷◌, ◌++◌}
use Prim.Native.Nat.{ℕ, ◌+◌, ◌<◌}
use native.Mathlib.Nat.{zero-add}
use native.Mathlib.Omega.{arith}
use lib.ListN.{length, get_or, set, take, drop, length-set, length-replicate}
use Rattle.std.proofs.lemmas.List.{length-drop, get_or-drop, take_more, take_more_set}
use Rattle.read_list.specs.Entries.{places_up}
use Rattle.read_list.proofs.Runs.{places_up_more}
use Rattle.read_list.proofs.listed_words.Goals as goal

-- one word more
held : (lent words : List ℕ) (i w : ℕ) → i < length lent → i < length words → take i words ≡ take i lent → w ≡ get_or lent i 0
    → take (i + 1) (set words i w) ≡ take (i + 1) lent
held lent words i w h g same e =
    take_more_set words i w g ∙ ap₂ (λ (l : List ℕ) (v : ℕ). l ++ (v ∷ [])) same e ∙ sym (take_more lent i 0 h)

pub loop-i-init : goal.loop-i-init
unfolding places_up
loop-i-init g c = record { whole = length-replicate _ _; words = refl; same = refl; entries = refl }

pub loop-i-preserved : goal.loop-i-preserved
loop-i-preserved g c =
    let a = c.args in
    let t = c.loop-i in
    let behind = drop a.place a.lent.now in
    record {
      whole = length-set t.words _ _ ∙ t.invariant.whole;
      words =
          held behind t.words t.i _ (omega (arith, length-drop a.place a.lent.now)) (omega (arith, t.invariant.whole)) t.invariant.words
          (c.listed.ensures.value 0 ∙ sym (get_or-drop a.place a.lent.now t.i 0));
      same = length-set t.list _ _ ∙ t.invariant.same;
      entries = places_up_more a.kind a.place t.i a.list.now 0 t.invariant.entries (ap (set t.list t.i) c.listed.ensures.entry_after) (sym (zero-add t.i)) refl;
    }
