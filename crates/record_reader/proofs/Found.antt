-- What is found if a test holds. Assumes nothing.
use mathlib.Core.Path.{◌≡◌, refl, sym}
use mathlib.Core.Bool.{Bool, true, false}
use Rattle.std.specs.Prelude.{None, Some}
use Rattle.std.specs.Bool.{then_some}
use Rattle.std.proofs.lemmas.Option.{none-some, same_Some}

pub found : {A : Type 0} {test : Bool} {x y : A} → Some y ≡ then_some test x → (test ≡ true) × (x ≡ y)
found {test = true} {x = x} {y = y} e = (refl, same_Some x y (sym e))
found {test = false} {y = y} e = absurd (none-some y (sym e))

pub not_found : {A : Type 0} {test : Bool} (x : A) → None ≡ then_some test x → test ≡ false
not_found {test = true} x e = absurd (none-some x e)
not_found {test = false} x e = refl
