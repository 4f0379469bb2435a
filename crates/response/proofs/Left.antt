-- What a response leaves, from its parts. Assumes nothing.
use mathlib.Core.Path.{◌≡◌, ap, ◌∙◌}
use mathlib.Core.Bool.{Bool, cond}
use mathlib.Core.List.{List, ◌∷◌, ◌++◌, append_assoc}
use Prim.Native.Nat.{ℕ, ◌+◌, ◌*◌}
use native.Mathlib.Omega.{arith}
use lib.ListN.{length, replicate, length-append}
use lib.Seq.{sets}
use lib.IntN.{ℤ, pos}
use Rattle.read_list.specs.Entries.{entry, places_up}
use Rattle.read_list.proofs.Runs.{length_places_up}
use Rattle.read_list.proofs.Written.{sets_sets}
use Rattle.challenge_product.specs.Product.{product_entries}
use Rattle.challenge_product.proofs.ProductSizes.{length_product_entries}
use Rattle.acceptance.specs.Acceptance.{acceptance_entries}
use Rattle.response.specs.Response.{respond_list_length, respond_entries, responded_by}
use Rattle.response.proofs.RespondTells.{length_respond_entries}

judged_written : (n : ℕ) (accepted : Bool) (challenge list : List ℕ) →
    sets (sets list 0 (entry 7 n ∷ (product_entries n challenge ++ places_up 2 0 3))) (1 + 2 * n * length challenge + 3) (acceptance_entries accepted) ≡ sets list 0 (respond_entries n accepted challenge)
unfolding respond_entries
judged_written n accepted challenge list =
    let product = product_entries n challenge in
    let words = places_up 2 0 3 in
    let rest = acceptance_entries accepted in
    let first = entry 7 n ∷ (product ++ words) in
    sets_sets list 0 _ first rest (omega (arith, length-append product words, length_product_entries n challenge, length_places_up 2 0 3))
    ∙ ap (λ (es : List ℕ). sets list 0 (entry 7 n ∷ es)) (append_assoc product words rest)

pub response_left : (n : ℕ) (accepted bit₁ : Bool) (challenge : List ℕ) (z : List ℤ) (list : List ℕ) (entries : ℕ) (y y₁ z₁ z₂ : List ℤ) (l₁ l₂ : List ℕ)
    → bit₁ ≡ accepted → entries ≡ respond_list_length n (length challenge) → length y ≡ 2 * n → y₁ ≡ replicate (length y) (pos 0)
    → length z₁ ≡ 2 * n → z₁ ≡ z → z₂ ≡ cond bit₁ z₁ (replicate (length z₁) (pos 0))
    → l₁ ≡ sets list 0 (entry 7 n ∷ (product_entries n challenge ++ places_up 2 0 3))
    → l₂ ≡ sets l₁ (1 + 2 * n * length challenge + 3) (acceptance_entries bit₁)
    → record { answer = record { bit = bit₁; entries = entries }; y = y₁; z = z₂; list = l₂ } ≡ responded_by n accepted challenge z list
unfolding responded_by
response_left n accepted bit₁ challenge z list entries y y₁ z₁ z₂ l₁ l₂ eb ee ly ey lz ez ec e₁ e₂ =
    rw (ee, ey, ly, ec, lz, ez, e₂, e₁, eb, length_respond_entries n accepted challenge, judged_written n accepted challenge list)
