-- Sums over vectors of signed numbers. Assumes nothing.
use Rattle.std.specs.Prelude.{◌≡◌, Bool, true, ◌&&◌, List, [], ◌∷◌, ◌++◌, ℕ, ◌+◌, ◌*◌, leb, length, ℤ, pos, nat_abs, ◌+ℤ◌, ◌*ℤ◌}

-- whether every value is from -bound to bound
unfoldable pub all_within : (bound : ℕ) (values : List ℤ) → Bool
all_within bound [] = true
all_within bound (v ∷ values) = leb (nat_abs v) bound && all_within bound values

-- the sum of squares
unfoldable pub square_sum : List ℤ → ℕ
square_sum [] = 0
square_sum (v ∷ values) = nat_abs v * nat_abs v + square_sum values

-- the sum of products, place by place
unfoldable pub inner_product : (a b : List ℤ) → ℤ
inner_product [] b = pos 0
inner_product (v ∷ a) [] = pos 0
inner_product (v ∷ a) (w ∷ b) = (v *ℤ w) +ℤ inner_product a b

-- ** What follows

-- a value more at the end adds its square
abbrev pub SquaresByOneMore : Type 0
SquaresByOneMore = (values : List ℤ) (v : ℤ) → square_sum (values ++ (v ∷ [])) ≡ square_sum values + nat_abs v * nat_abs v

-- and two values more their product
abbrev pub ProductsByOneMore : Type 0
ProductsByOneMore =
    (a b : List ℤ) (v w : ℤ) → length a ≡ length b
    → inner_product (a ++ (v ∷ [])) (b ++ (w ∷ [])) ≡ inner_product a b +ℤ (v *ℤ w)
