-- The challenge product, as it is made: half by half. Assumes nothing.
use mathlib.Core.Path.{◌≡◌, sym, ap, ◌∙◌}
use mathlib.Core.List.{List}
use Prim.Native.Nat.{ℕ, ◌+◌, ◌-◌, ◌*◌, ◌≤◌}
use borrow.Rule.Slice.PartMut.{put_mid}
use native.Mathlib.Omega.{arith}
use lib.ListN.{length, take, drop}
use lib.Seq.{sets, length-sets}
use lib.IntN.{ℤ}
use Rattle.signed.specs.Vectors.{square_sum}
use Rattle.signed.proofs.Vectors.{squares_append}
use Rattle.read_list.proofs.InPart.{written_in_part}
use Rattle.read_list.proofs.Written.{written_behind, sets_whole}
use Rattle.challenge_product.proofs.ProductSizes.{length_outputs_from, length_product, length_output_entries_from}
use Rattle.challenge_product.specs.Product.{outputs_from, product, output_entries_from, product_entries}

module _ (n : ℕ) (challenge : List ℕ) where
  -- the sums of squares of both halves
  pub both_summed : (key : List ℤ) {first second : ℕ}
      → first ≡ square_sum (outputs_from key n 0 challenge 0 n) → second ≡ square_sum (outputs_from key n n challenge 0 n)
      → first + second ≡ square_sum (product key n challenge)
  unfolding product
  both_summed key e₁ e₂ =
      omega (arith, e₁, e₂, squares_append (outputs_from key n 0 challenge 0 n) (outputs_from key n n challenge 0 n))

  -- both halves, written one behind the other over the whole of z
  pub both_filled : (key z : List ℤ) {z₁ z₂ : List ℤ} → length z ≡ 2 * n
      → z₁ ≡ sets z 0 (outputs_from key n 0 challenge 0 n) → z₂ ≡ sets z₁ n (outputs_from key n n challenge 0 n)
      → z₂ ≡ product key n challenge
  unfolding product
  both_filled key z h e₁ e₂ =
      written_behind z 0 n (outputs_from key n 0 challenge 0 n) (outputs_from key n n challenge 0 n) e₁ e₂ (omega (arith, length_outputs_from key n 0 challenge 0 n))
      ∙ sets_whole z (product key n challenge) (length_product key n challenge ∙ sym h)

  -- their entries, the second half's in the part behind the first's
  pub both_listed : (list : List ℕ) {list₁ part : List ℕ} → let at = n * length challenge in
      2 * n * length challenge ≤ length list → list₁ ≡ sets list 0 (output_entries_from n 0 challenge 0 n)
      → part ≡ sets (take (length list₁ - at) (drop at list₁)) 0 (output_entries_from n n challenge 0 n)
      → put_mid at (length list₁ - at) list₁ part ≡ sets list 0 (product_entries n challenge)
  unfolding product_entries
  both_listed list {list₁ = list₁} h e₁ e₂ =
      let at = n * length challenge in
      let first = output_entries_from n 0 challenge 0 n in
      let second = output_entries_from n n challenge 0 n in
      let size : length list₁ ≡ length list = ap length e₁ ∙ length-sets list 0 first in
      let room : length second ≤ length list₁ - at = omega (arith, length_output_entries_from n n challenge 0 n, size, h) in
      written_behind list 0 at first second e₁ (written_in_part at _ list₁ second e₂ room)
      (omega (arith, length_output_entries_from n 0 challenge 0 n))
