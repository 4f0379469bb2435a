-- The inner product is symmetric and linear, and the sum of squares is the inner product of a vector with itself. Assumes nothing.
use mathlib.Core.Path.{◌≡◌, refl, ap, ap₂}
use mathlib.Core.List.{List, [], ◌∷◌, ◌++◌}
use Prim.Native.Nat.{ℕ, zero, suc}
use native.Mathlib.Nat.{suc_inj}
use native.Mathlib.Omega.{arith}
use lib.ListN.{length, replicate}
use lib.IntN.{ℤ, pos, ◌+ℤ◌, *ℤ_comm, zero-*ℤ}
use Rattle.std.proofs.lemmas.Int.{ints}
use Rattle.signed.specs.Vectors.{square_sum, inner_product}
use Rattle.signed.proofs.Signs.{square_is}
use Rattle.signed.proofs.Integers.{+-*ℤ}

-- the sum of two vectors, place by place
unfoldable pub plus_all : (a b : List ℤ) → List ℤ
plus_all [] b = []
plus_all (v ∷ a) [] = []
plus_all (v ∷ a) (w ∷ b) = (v +ℤ w) ∷ plus_all a b

pub plus_append : (a b a' b' : List ℤ) → length a ≡ length b → plus_all (a ++ a') (b ++ b') ≡ plus_all a b ++ plus_all a' b'
unfolding plus_all
plus_append [] [] a' b' e = refl
plus_append [] (w ∷ b) a' b' e = absurd (omega arith)
plus_append (v ∷ a) [] a' b' e = absurd (omega arith)
plus_append (v ∷ a) (w ∷ b) a' b' e = ap (λ (l : List ℤ). (v +ℤ w) ∷ l) (plus_append a b a' b' (suc_inj e))

pub inner_comm : (a b : List ℤ) → inner_product a b ≡ inner_product b a
unfolding inner_product
inner_comm [] [] = refl
inner_comm [] (w ∷ b) = refl
inner_comm (v ∷ a) [] = refl
inner_comm (v ∷ a) (w ∷ b) = ap₂ (λ (x y : ℤ). x +ℤ y) (*ℤ_comm v w) (inner_comm a b)

-- linear in the first vector, and so by symmetry in the second
pub inner_plus : (a b c : List ℤ) → length a ≡ length b → inner_product (plus_all a b) c ≡ inner_product a c +ℤ inner_product b c
unfolding inner_product plus_all
inner_plus [] [] c e = refl
inner_plus [] (w ∷ b) c e = absurd (omega arith)
inner_plus (v ∷ a) [] c e = absurd (omega arith)
inner_plus (v ∷ a) (w ∷ b) [] e = refl
inner_plus (v ∷ a) (w ∷ b) (x ∷ c) e = omega (arith, ints, +-*ℤ v w x, inner_plus a b c (suc_inj e))

pub inner_append : (a b a' b' : List ℤ) → length a ≡ length b → inner_product (a ++ a') (b ++ b') ≡ inner_product a b +ℤ inner_product a' b'
unfolding inner_product
inner_append [] [] a' b' e = omega (arith, ints)
inner_append [] (w ∷ b) a' b' e = absurd (omega arith)
inner_append (v ∷ a) [] a' b' e = absurd (omega arith)
inner_append (v ∷ a) (w ∷ b) a' b' e = omega (arith, ints, inner_append a b a' b' (suc_inj e))

pub inner_zeros : (k : ℕ) (c : List ℤ) → inner_product (replicate k (pos 0)) c ≡ pos 0
unfolding inner_product
inner_zeros zero c = refl
inner_zeros (suc k) [] = refl
inner_zeros (suc k) (x ∷ c) = ap₂ (λ (y z : ℤ). y +ℤ z) (zero-*ℤ x) (inner_zeros k c)

-- the sum of squares is the inner product of a vector with itself
pub squares_inner : (a : List ℤ) → inner_product a a ≡ pos (square_sum a)
unfolding inner_product square_sum
squares_inner [] = refl
squares_inner (v ∷ a) = ap₂ (λ (y z : ℤ). y +ℤ z) (square_is v) (squares_inner a)
