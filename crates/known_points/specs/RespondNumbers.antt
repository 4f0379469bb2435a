-- Document 01 on the response, in numbers: the limit of Z, and sums of squares and of products. negsuc k is -(k + 1). Assumes nothing.
use Rattle.std.specs.Prelude.{◌≡◌, [], ◌∷◌, ◌^◌, pos, negsuc}
use Rattle.signed.specs.Vectors.{square_sum, inner_product}
use Rattle.acceptance.specs.Acceptance.{norm_limit}

pub record RespondNumbers : Type 0 where
  -- 165,688,384 = 12,872 ^ 2
  pub norm_limit_lem : norm_limit ≡ 12872 ^ 2
  -- sums over products and values of both signs: 3 * 5 + 2 * -7 + -1 * 4 = -3, and 3 ^ 2 + 7 ^ 2 = 58
  pub inner_of_both_signs : inner_product (pos 3 ∷ pos 2 ∷ negsuc 0 ∷ []) (pos 5 ∷ negsuc 6 ∷ pos 4 ∷ []) ≡ negsuc 2
  pub squares_of_both_signs : square_sum (pos 3 ∷ negsuc 6 ∷ []) ≡ 58
