-- `base_sample::Cdt::scan` meets its contract: the entries of the low words stand behind those of the high words. Assumes nothing.
use mathlib.Core.Path.{◌≡◌, refl}
use mathlib.Core.List.{List}
use Prim.Native.Nat.{ℕ}
use native.Mathlib.Omega.{arith}
use lib.Seq.{sets}
use Rattle.read_list.specs.Entries.{places_up}
use Rattle.read_list.proofs.InPart.{written_in_part}
use Rattle.read_list.proofs.Written.{written_behind}
use Rattle.base_sample.proofs.Cdt.scan.Goals as goal

all_listed : (list : List ℕ) {list₁ list₂ : List ℕ} → list₁ ≡ sets list 0 (places_up 3 0 10) → list₂ ≡ sets list₁ 10 (places_up 3 10 10)
    → list₂ ≡ sets list 0 (places_up 3 0 20)
unfolding places_up
all_listed list e₁ e₂ = written_behind list 0 10 (places_up 3 0 10) (places_up 3 10 10) e₁ e₂ refl

pub returns : goal.returns
unfolding places_up
returns c =
    let r = c.at_or_below.ensures in
    let list = c.listed_words-high.new.list in
    let low = written_in_part 10 _ list (places_up 3 10 10) r.2 (omega arith) in
    (r.0, r.1, all_listed c.args.list.now c.listed_words-high.ensures.list_after low)
