-- `response::measured` meets its contract. Assumes nothing.
use mathlib.Core.Path.{◌≡◌, refl, sym, ap, ◌∙◌}
use mathlib.Core.Bool.{Bool, true}
use mathlib.Core.List.{List, [], ◌∷◌, ◌++◌}
use Prim.Native.Nat.{ℕ, ◌+◌, ◌-◌, ◌*◌, ◌≤◌, ◌<◌}
use native.Mathlib.Omega.{arith}
use borrow.Rule.Slice.PartMut.{put_mid}
use lib.ListN.{length, get_or, set, take, drop, length-set}
use lib.Seq.{sets, length-sets, get_or-take}
use lib.IntN.{ℤ}
use mir.Syntax.{w64}
use mir.Val.{to_z, of_z}
use Rattle.signed.specs.Vectors.{all_within, square_sum, inner_product}
use Rattle.signed.proofs.Signs.{fits_of_abs, read_back}
use Rattle.read_list.specs.Entries.{entry, places_up}
use Rattle.read_list.proofs.InPart.{written_in_part}
use Rattle.read_list.proofs.Runs.{length_places_up}
use Rattle.read_list.proofs.Written.{written_behind}
use Rattle.challenge_product.specs.Product.{output_bound, product, product_entries}
use Rattle.challenge_product.proofs.ProductSizes.{length_product, length_product_entries, product_within}
use Rattle.response.specs.Response.{noise_bound, subtracts, response_of, response_z, is_bounded, measures_of}
use Rattle.response.proofs.Passes.{inner_bound}
use Rattle.response.proofs.measured.Goals as goal
use Rattle.response.proofs.measured.Goals.{After-is_bounded-bounded}

-- ** What the code asks for

pub add_product-sums-requires : goal.add_product-sums-requires
add_product-sums-requires c =
    let a = c.args in
    let made = c.product_listed-squares.ensures.z_after in
    let size = ap length made ∙ length_product a.factors.key.now a.factors.degree a.factors.challenge.now in (
      c.requires.1 ∙ sym size,
      omega (arith, size, c.args.factors.low),
      c.requires.2,
      ap (all_within output_bound) made ∙ product_within a.factors.key.now a.factors.degree c.args.factors.small a.factors.challenge.now c.args.factors.few,
    )

-- ** What comes out, over plain variables

-- I is small, so that it is read from its bits as it is
inner_read : (g : Bool) (y sc : List ℤ) (inner : ℤ) → inner ≡ inner_product (response_of g y sc) sc → all_within noise_bound y ≡ true
    → all_within output_bound sc ≡ true → length sc ≤ 2048 → to_z w64 (of_z w64 inner) ≡ inner_product (response_of g y sc) sc
inner_read g y sc inner e hy hs short = rw e (read_back (fits_of_abs {w = w64} (omega (arith, inner_bound g y sc hy hs))))

-- the measures, each by what it is made of
measures : (n : ℕ) (y sc z : List ℤ) (first second third : ℕ) (words : List ℕ) (squares norm : ℕ) (inner : ℤ) (bounded : Bool)
    → z ≡ sc → first ≡ get_or words 0 0 → second ≡ get_or words 1 0 → third ≡ get_or words 2 0
    → squares ≡ square_sum sc → norm ≡ square_sum (response_of (subtracts first) y z)
    → inner ≡ inner_product (response_of (subtracts first) y z) z → bounded ≡ is_bounded n (response_of (subtracts first) y z)
    → record { squares = squares; norm = norm; inner = inner; bounded = bounded; second = second; third = third } ≡ measures_of n y sc words
unfolding measures_of response_z
measures n y sc z first second third words squares norm inner bounded ez e₀ e₁ e₂ es en ei eb = rw (es, en, ei, eb, ez, e₀, e₁, e₂)

-- z after it
response : (y sc z : List ℤ) (first : ℕ) (words : List ℕ) → z ≡ sc → first ≡ get_or words 0 0
    → response_of (subtracts first) y z ≡ response_z y sc words
unfolding response_z
response y sc z first words ez e₀ = rw (ez, e₀)

-- the list after it: what is listed behind the degree stands in parts
module _ (n : ℕ) (challenge list : List ℕ) where
  abbrev end : ℕ
  end = 1 + 2 * n * length challenge

  written : (first : ℕ) {part₂ part₃ : List ℕ} → 2 * n * length challenge + 4 ≤ length list
      → let l₁ = set list 0 first in let l₂ = put_mid 1 (length l₁ - 1) l₁ part₂ in
      first ≡ entry 7 n → part₂ ≡ sets (take (length l₁ - 1) (drop 1 l₁)) 0 (product_entries n challenge)
      → part₃ ≡ sets (take (length l₂ - end) (drop end l₂)) 0 (places_up 2 0 3)
      → put_mid end (length l₂ - end) l₂ part₃ ≡ sets list 0 (entry 7 n ∷ (product_entries n challenge ++ places_up 2 0 3))
  written first {part₂} {part₃} room e₁ e₂ e₃ =
      let l₁ = set list 0 first in
      let l₂ = put_mid 1 (length l₁ - 1) l₁ part₂ in
      let es = product_entries n challenge in
      let words = places_up 2 0 3 in
      let count : length es ≡ 2 * n * length challenge = length_product_entries n challenge in
      let same₁ : length l₁ ≡ length list = length-set list 0 first in
      let w₂ : l₂ ≡ sets l₁ 1 es = written_in_part 1 (length l₁ - 1) l₁ es e₂ (omega arith) in
      let same₂ : length l₂ ≡ length l₁ = ap length w₂ ∙ length-sets l₁ 1 es in
      let w₃ : put_mid end (length l₂ - end) l₂ part₃ ≡ sets l₂ end words =
      written_in_part end (length l₂ - end) l₂ words e₃ (omega (arith, length_places_up 2 0 3)) in
      written_behind list 0 1 (entry 7 n ∷ []) (es ++ words) (ap (set list 0) e₁)
      (written_behind l₁ 1 end es words w₂ w₃ (omega arith)) refl

module _ (c : After-is_bounded-bounded) where
  -- the words, as they are read
  word : (i : ℕ) → i < 3 → get_or c.listed_words.result i 0 ≡ get_or c.args.words.now i 0
  word i h = rw c.listed_words.ensures.words (get_or-take 3 c.args.words.now i 0 h)

pub returns : goal.returns
returns c =
    let a = c.args in
    let sc = product a.factors.key.now a.factors.degree a.factors.challenge.now in
    let sums = c.add_product-sums.ensures in
    let at = (goal.at.returns c).After-is_bounded-bounded in
    let w₀ = word at 0 (omega arith) in
    let made = c.product_listed-squares.ensures in
    let size = ap length made.z_after ∙ length_product a.factors.key.now a.factors.degree a.factors.challenge.now in
    let within = ap (all_within output_bound) made.z_after ∙ product_within a.factors.key.now a.factors.degree c.args.factors.small a.factors.challenge.now c.args.factors.few in
    let inner = inner_read _ _ _ _ sums.sums.1 c.requires.2 within (omega (arith, size, c.args.factors.low)) in
    let bounded = c.is_bounded-bounded.ensures ∙ ap (is_bounded a.factors.degree) sums.z_after in
    record {
      value = measures a.factors.degree a.y.now sc _ _ _ _ a.words.now _ _ _ _ made.z_after w₀ (word at 1 (omega arith)) (word at 2 (omega arith)) made.value sums.sums.0 inner bounded;
      z_after = sums.z_after ∙ response a.y.now sc _ _ a.words.now made.z_after w₀;
      list_after = written a.factors.degree a.factors.challenge.now a.list.now _ c.requires.4 c.note.ensures made.list_after c.listed_words.ensures.list_after;
    }
