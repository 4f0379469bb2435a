-- A response gives the same where what is lent agrees on its entries. Assumes nothing.
use mathlib.Core.Path.{◌≡◌}
use mathlib.Core.Bool.{Bool}
use mathlib.Core.List.{List}
use Prim.Native.Nat.{ℕ, ◌≤◌, ◌<◌}
use native.Mathlib.Omega.{arith}
use lib.IntN.{ℤ}
use lib.ListN.{get_or}
use Rattle.read_list.specs.Entries.{places_up}
use Rattle.read_list.specs.Agreement.{Lent, Agree}
use Rattle.read_list.proofs.Agreement.{agree_first, agree_rest, agree_tail, agree_places_up, same_word}
use Rattle.challenge_product.specs.Product.{product, product_entries}
use Rattle.challenge_product.proofs.Agreement.{same_product}
use Rattle.response.specs.Response.{respond_entries, response_z, measures_of, response_bit}

module _ {a b : Lent} (n : ℕ) (accepted : Bool) (challenge : List ℕ) (h : n ≤ 1024) (same : Agree a b (respond_entries n accepted challenge)) where
  same_products : product a.key n challenge ≡ product b.key n challenge
  unfolding respond_entries
  same_products = same_product n challenge h (agree_first (product_entries n challenge) _ (agree_tail same))

  pub same_words_lem : (p : ℕ) → p < 3 → get_or a.words p 0 ≡ get_or b.words p 0
  unfolding respond_entries
  same_words_lem p g =
      let later = agree_rest (product_entries n challenge) _ (agree_tail same) in
      same_word p (omega arith) (agree_places_up 2 0 3 (agree_first (places_up 2 0 3) _ later) p (omega arith) (omega arith))

  -- z, and the bit, where y is the same
  pub same_z : (y : List ℤ) → response_z y (product a.key n challenge) a.words ≡ response_z y (product b.key n challenge) b.words
  unfolding response_z
  same_z y = rw (same_products, same_words_lem 0 (omega arith))

  pub same_bit : (e : ℕ → ℕ) (y : List ℤ)
      → response_bit e n y (product a.key n challenge) a.words ≡ response_bit e n y (product b.key n challenge) b.words
  unfolding response_bit measures_of
  same_bit e y = rw (same_z y, same_products, same_words_lem 1 (omega arith), same_words_lem 2 (omega arith))
