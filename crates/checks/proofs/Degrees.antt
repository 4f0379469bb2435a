-- Degrees: a `match` on their list, and their range. Assumes nothing.
use mathlib.Core.Path.{◌≡◌, refl, sym}
use mathlib.Core.Bool.{true, false, ◌&&◌}
use types.Run.{OneOf}
use Prim.Native.Nat.{ℕ, ◌≤◌}
use lib.Dec.{leb}
use borrow.Author.Tests.{leb-true}
use Rattle.checks.specs.Checks.{degrees, is_degree}
use Rattle.checks.proofs.JoinedTests.{both_true}
use Rattle.checks.proofs.Among.{hit_among, miss_among, every, every_among}

pub is_degree_lem : (n : ℕ) → OneOf degrees n → true ≡ is_degree n
unfolding is_degree
is_degree_lem n h = sym (hit_among degrees n h)

pub not_degree : (n : ℕ) → (OneOf degrees n → ⊥) → false ≡ is_degree n
unfolding is_degree
not_degree n h = sym (miss_among degrees n h)

pub degree_range : (n : ℕ) → is_degree n ≡ true → (4 ≤ n) × (n ≤ 1024)
unfolding is_degree every
degree_range n h =
    let t = both_true (leb 4 n) (leb n 1024) (every_among (λ (k : ℕ). leb 4 k && leb k 1024) degrees n refl h) in
    (leb-true 4 n t.0, leb-true n 1024 t.1)
