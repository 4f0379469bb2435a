-- Laws of the response: its values and bounds, and one place more. Assumes nothing.
use mathlib.Core.Path.{◌≡◌, refl, sym, ap, ap₂, ◌∙◌}
use mathlib.Core.Bool.{Bool, true, false, cond}
use mathlib.Core.List.{List, [], ◌∷◌, ◌++◌, append-nil}
use Prim.Native.Nat.{ℕ, zero, suc, ◌+◌, ◌*◌, ◌≤◌, ◌<◌}
use native.Mathlib.Nat.{mul-le-mul, not-suc-le-zero, le_of_suc-le-suc}
use native.Mathlib.Numerals.{add-one}
use native.Mathlib.Omega.{arith}
use lib.ListN.{length, get_or, set, take, drop, replicate, length-set}
use lib.Seq.{take-suc, take_all, drop-cons, drop-length, append_snoc, set_at, get_or_at, length-take-le}
use lib.IntN.{ℤ, pos, neg_ℤ, nat_abs, ◌+ℤ◌, ◌*ℤ◌, +ℤ_idl, +ℤ_idr, +ℤ_assoc}
use Rattle.signed.specs.Vectors.{all_within, square_sum, inner_product}
use Rattle.signed.proofs.Signs.{abs_neg, abs_add, abs_mul}
use Rattle.signed.proofs.Vectors.{within_parts, within_none, within_more, squares_within, inner_within}
use Rattle.challenge_product.specs.Product.{output_bound}
use Rattle.response.specs.Response.{noise_bound, response_bound, response_of}

-- ** The values

pub length_response : (g : Bool) (y sc : List ℤ) → length y ≡ length sc → length (response_of g y sc) ≡ length sc
unfolding response_of
length_response g [] [] h = refl
length_response g [] (c ∷ sc) h = h
length_response g (v ∷ y) [] h = refl
length_response g (v ∷ y) (c ∷ sc) h = ap suc (length_response g y sc (omega arith))

pub response_at : (g : Bool) (y sc : List ℤ) (i : ℕ) → i < length y → i < length sc
    → get_or (response_of g y sc) i (pos 0) ≡ get_or y i (pos 0) +ℤ cond g (neg_ℤ (get_or sc i (pos 0))) (get_or sc i (pos 0))
unfolding response_of
response_at g [] sc i h l = absurd (not-suc-le-zero h)
response_at g (v ∷ y) [] i h l = absurd (not-suc-le-zero l)
response_at g (v ∷ y) (c ∷ sc) zero h l = refl
response_at g (v ∷ y) (c ∷ sc) (suc i) h l = response_at g y sc i (le_of_suc-le-suc h) (le_of_suc-le-suc l)

-- where the product is zero, it is y
pub response_of_none : (g : Bool) (y : List ℤ) (n : ℕ) → length y ≡ n → response_of g y (replicate n (pos 0)) ≡ y
unfolding response_of
response_of_none g [] n l = refl
response_of_none g (v ∷ y) zero l = absurd (omega arith)
response_of_none true (v ∷ y) (suc n) l = ap₂ ◌∷◌ (+ℤ_idr v) (response_of_none true y n (omega arith))
response_of_none false (v ∷ y) (suc n) l = ap₂ ◌∷◌ (+ℤ_idr v) (response_of_none false y n (omega arith))

abs_turned : (g : Bool) (c : ℤ) → nat_abs (cond g (neg_ℤ c) c) ≡ nat_abs c
abs_turned true c = abs_neg c
abs_turned false c = refl

pub response_within : (g : Bool) (y sc : List ℤ) → all_within noise_bound y ≡ true → all_within output_bound sc ≡ true
    → all_within response_bound (response_of g y sc) ≡ true
unfolding response_of
response_within g [] sc hy hs = within_none response_bound
response_within g (v ∷ y) [] hy hs = within_none response_bound
response_within g (v ∷ y) (c ∷ sc) hy hs =
    let py = within_parts noise_bound v y hy in
    let ps = within_parts output_bound c sc hs in
    within_more response_bound (v +ℤ cond g (neg_ℤ c) c) (response_of g y sc) (omega (arith, abs_add v (cond g (neg_ℤ c) c), abs_turned g c, py.0, ps.0)) (response_within g y sc py.1 ps.1)

-- ** The pass over both vectors

-- after i places: z is the response up to there and the product behind, and the sums with what the other places add are those of the whole
pub record Added (whole sc z : List ℤ) (norm : ℕ) (inner : ℤ) (i : ℕ) : Type 0 where
  pub turns : i ≤ length sc
  pub size : length z ≡ length sc
  pub mixed : z ≡ take i whole ++ drop i sc
  pub norm_is : norm + square_sum (drop i whole) ≡ square_sum whole
  pub inner_is : inner +ℤ inner_product (drop i whole) (drop i sc) ≡ inner_product whole sc
  pub inner_small : nat_abs inner ≤ 1461824 * i

pub add_start : (whole sc : List ℤ) → Added whole sc sc 0 (pos 0) 0
add_start whole sc = record { turns = omega arith; size = refl; mixed = refl; norm_is = omega arith; inner_is = +ℤ_idl (inner_product whole sc); inner_small = omega arith }

module _ {whole sc z : List ℤ} {norm : ℕ} {inner : ℤ} {i : ℕ} (lengths : length whole ≡ length sc) (s : Added whole sc z norm inner i) where
  module _ (h : i < length sc) where
    -- the product still stands at the place
    pub product_stands : get_or z i (pos 0) ≡ get_or sc i (pos 0)
    product_stands =
        rw (s.mixed, drop-cons sc i (pos 0) h) (get_or_at (take i whole) (get_or sc i (pos 0)) (drop (suc i) sc) (pos 0) i (length-take-le i whole (omega arith)))

    pub norm_within : norm + nat_abs (get_or whole i (pos 0)) * nat_abs (get_or whole i (pos 0)) ≤ square_sum whole
    unfolding square_sum
    norm_within = omega (arith, rw (drop-cons whole i (pos 0) (omega arith)) at s.norm_is)

    mixed_more : set (take i whole ++ drop i sc) i (get_or whole i (pos 0)) ≡ take (i + 1) whole ++ drop (i + 1) sc
    mixed_more =
        rw (drop-cons sc i (pos 0) h, add-one i, take-suc whole i (pos 0) (omega arith))
        (set_at (take i whole) (get_or sc i (pos 0)) (drop (suc i) sc) (get_or whole i (pos 0)) i (length-take-le i whole (omega arith))
        ∙ sym (append_snoc (take i whole) (get_or whole i (pos 0)) (drop (suc i) sc)))

    pub add_more : {z' : List ℤ} {norm' : ℕ} {inner' : ℤ} → nat_abs (get_or whole i (pos 0)) ≤ response_bound
        → nat_abs (get_or sc i (pos 0)) ≤ output_bound
        → z' ≡ set z i (get_or whole i (pos 0)) → norm' ≡ norm + nat_abs (get_or whole i (pos 0)) * nat_abs (get_or whole i (pos 0))
        → inner' ≡ inner +ℤ (get_or whole i (pos 0) *ℤ get_or sc i (pos 0))
        → Added whole sc z' norm' inner' (i + 1)
    unfolding square_sum inner_product
    add_more hw hs ez en ei =
        let v = get_or whole i (pos 0) in
        let c = get_or sc i (pos 0) in
        let next = drop-cons whole i (pos 0) (omega arith) in
        let next' = drop-cons sc i (pos 0) h in
        record {
          turns = omega arith;
          size = rw (ez, length-set) s.size;
          mixed = rw (ez, s.mixed) mixed_more;
          norm_is = rw (en, add-one i) (omega (arith, rw next at s.norm_is));
          inner_is = rw (ei, add-one i) (+ℤ_assoc inner (v *ℤ c) (inner_product (drop (suc i) whole) (drop (suc i) sc)) ∙ (rw (next, next') at s.inner_is));
          inner_small = rw ei (omega (arith, abs_add inner (v *ℤ c), abs_mul v c, mul-le-mul hw hs, s.inner_small));
        }

  pub add_end : length sc ≤ i → ((norm ≡ square_sum whole) × (inner ≡ inner_product whole sc)) × (z ≡ whole)
  unfolding square_sum inner_product
  add_end h =
      let all : i ≡ length whole = omega (arith, s.turns) in
      let none : drop i whole ≡ [] = rw all (drop-length whole) in
      let none' : drop i sc ≡ [] = rw (all ∙ lengths) (drop-length sc) in
      ((omega (arith, rw none at s.norm_is), sym (+ℤ_idr inner) ∙ (rw none at s.inner_is)), s.mixed ∙ rw (take_all i whole (omega arith), none') (append-nil whole))

pub norm_bound : (g : Bool) (y sc : List ℤ) → length y ≡ length sc → all_within noise_bound y ≡ true → all_within output_bound sc ≡ true
    → square_sum (response_of g y sc) ≤ 10647169 * length sc
norm_bound g y sc l hy hs = omega (arith, squares_within response_bound (response_of g y sc) (response_within g y sc hy hs), length_response g y sc l)

pub inner_bound : (g : Bool) (y sc : List ℤ) → all_within noise_bound y ≡ true → all_within output_bound sc ≡ true
    → nat_abs (inner_product (response_of g y sc) sc) ≤ 1461824 * length sc
inner_bound g y sc hy hs = omega (arith, inner_within response_bound output_bound (response_of g y sc) sc (response_within g y sc hy hs) hs)
