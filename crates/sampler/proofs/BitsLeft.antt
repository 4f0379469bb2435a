-- The accept bits that a draw has still to make. Assumes nothing.
use mathlib.Core.Path.{◌≡◌, refl}
use mathlib.Core.Bool.{Bool, true, false, ◌&&◌}
use mathlib.Core.List.{List, [], ◌∷◌}
use Prim.Native.Nat.{ℕ, zero, suc, ◌+◌, ◌-◌, ◌<◌}
use native.Mathlib.Numerals.{add-one}
use native.Mathlib.Omega.{arith}
use lib.Dec.{ltb}
use borrow.Author.Tests.{ltb-false}
use Rattle.arithmetic.specs.Words.{bit}
use Rattle.sampler.specs.Draw.{still_wanted, bits_from}

-- after t attempts with k samples accepted
abbrev pub bits_left : (f : ℕ → Bool) (want limit t k : ℕ) → List Bool
bits_left f want limit t k = bits_from f t (limit - t) (want - k)

still_wanted_lem : (b : Bool) (want k : ℕ) → k < want → still_wanted b (want - (k + 1)) ≡ want - (k + bit b)
still_wanted_lem true want k h = refl
still_wanted_lem false want k h = omega arith

-- one attempt is made
pub left_next : (f : ℕ → Bool) (want limit t k : ℕ) → t < limit → k < want
    → bits_left f want limit t k ≡ f t ∷ bits_left f want limit (t + 1) (k + bit (f t))
unfolding bits_from
left_next f want limit t k h g =
    let e : limit - t ≡ suc (limit - (t + 1)) = omega arith in
    let d : want - k ≡ suc (want - (k + 1)) = omega arith in
    rw (e, d, still_wanted_lem (f t) want k g, add-one t)

none_wanted : (f : ℕ → Bool) (t left : ℕ) → bits_from f t left 0 ≡ []
unfolding bits_from
none_wanted f t zero = refl
none_wanted f t (suc left) = refl

-- no attempt is made
pub left_none : (f : ℕ → Bool) (want limit t k : ℕ) → (ltb t limit && ltb k want) ≡ false → bits_left f want limit t k ≡ []
unfolding bits_from
left_none f want limit t k h = by (ltb t limit) refl h
  where
    by : (b : Bool) → ltb t limit ≡ b → (b && ltb k want) ≡ false → bits_left f want limit t k ≡ []
    by true e g =
        let l = ltb-false k want g in
        let z : want - k ≡ 0 = omega arith in
        rw z (none_wanted f t (limit - t))
    by false e g =
        let l = ltb-false t limit e in
        let z : limit - t ≡ 0 = omega arith in
        rw z
