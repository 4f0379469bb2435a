-- The product of the empty challenge: zeros, whatever the key is, and no entries. Assumes nothing.
use mathlib.Core.Path.{◌≡◌, refl, ap}
use mathlib.Core.List.{List, [], ◌∷◌}
use Prim.Native.Nat.{ℕ, zero, suc, ◌+◌, ◌*◌}
use native.Mathlib.Omega.{arith}
use lib.IntN.{ℤ, pos}
use lib.ListN.{replicate, replicate-append-replicate}
use Rattle.challenge_product.specs.Product.{output_at, outputs_from, product, output_entries, output_entries_from, product_entries}

outputs_of_none : (key : List ℤ) (n base i count : ℕ) → outputs_from key n base [] i count ≡ replicate count (pos 0)
unfolding outputs_from output_at
outputs_of_none key n base i zero = refl
outputs_of_none key n base i (suc count) = ap (λ (l : List ℤ). pos 0 ∷ l) (outputs_of_none key n base (suc i) count)

pub product_of_none : (key : List ℤ) (n : ℕ) → product key n [] ≡ replicate (2 * n) (pos 0)
unfolding product
product_of_none key n =
    let both : n + n ≡ 2 * n = omega arith in
    rw (outputs_of_none key n 0 0 n, outputs_of_none key n n 0 n, ← both) (replicate-append-replicate n n (pos 0))

half_of_none : (n base i count : ℕ) → output_entries_from n base [] i count ≡ []
unfolding output_entries_from output_entries
half_of_none n base i zero = refl
half_of_none n base i (suc count) = half_of_none n base (suc i) count

pub entries_of_none : (n : ℕ) → product_entries n [] ≡ []
unfolding product_entries
entries_of_none n = rw (half_of_none n 0 0 n, half_of_none n n 0 n)
