-- An entry taken apart. Assumes nothing.
use mathlib.Core.Path.{◌≡◌, refl}
use Prim.Native.Nat.{ℕ, ◌^◌, ◌<◌}
use lib.Arith.{digits_div, digits_mod}
use Rattle.read_list.specs.Entries.{entry, kind_of, place_of, EntryIs}

pub entry_is : EntryIs
entry_is kind place = refl

pub kind_of_entry : (kind : ℕ) {place : ℕ} → place < 2 ^ 24 → kind_of (entry kind place) ≡ kind
kind_of_entry kind h = digits_div kind h

pub place_of_entry : (kind : ℕ) {place : ℕ} → place < 2 ^ 24 → place_of (entry kind place) ≡ place
place_of_entry kind h = digits_mod kind h
