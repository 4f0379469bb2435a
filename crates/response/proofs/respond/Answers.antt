-- `response::respond` meets its contract. Assumes nothing.
use mathlib.Core.Path.{◌≡◌, refl, ap, ◌∙◌}
use mathlib.Core.Bool.{Bool, true}
use mathlib.Core.List.{List}
use Prim.Native.Nat.{ℕ, ◌+◌, ◌*◌, ◌≤◌}
use native.Mathlib.Nat.{mul-le-mul}
use native.Mathlib.Omega.{arith}
use lib.ListN.{length, get_or}
use lib.IntN.{ℤ, nat_abs}
use Rattle.signed.specs.Vectors.{all_within}
use Rattle.challenge_product.specs.Product.{output_bound, product}
use Rattle.challenge_product.proofs.ProductSizes.{length_product, product_within}
use Rattle.acceptance.specs.declared.Measures.{Measures}
use Rattle.read_list.specs.Entries.{places_down}
use Rattle.read_list.proofs.InPart.{length_behind, written_in_part}
use Rattle.acceptance.specs.Acceptance.{accepts_by, acceptance_entries}
use Rattle.response.specs.Response.{noise_bound, subtracts, response_z, measures_of, response_bit}
use Rattle.response.proofs.Passes.{inner_bound}
use Rattle.response.proofs.Left.{response_left}
use Rattle.response.proofs.respond.Goals as goal

-- I is small
inner_small : (n : ℕ) (y sc : List ℤ) (words : List ℕ) → all_within noise_bound y ≡ true → all_within output_bound sc ≡ true
    → length sc ≤ 2048 → nat_abs (measures_of n y sc words).inner ≤ 1461824 * 2048
unfolding measures_of response_z
inner_small n y sc words hy hs short = omega (arith, inner_bound (subtracts (get_or words 0 0)) y sc hy hs)

count : (accepted : Bool) → length (acceptance_entries accepted) ≡ 43
unfolding acceptance_entries places_down
count accepted = refl

pub measured-m-requires : goal.measured-m-requires
measured-m-requires c =
    let p = c.requires in
    (p.1, p.2, p.3, p.4, omega (arith, p.5))

pub judged-bit-requires : goal.judged-bit-requires
judged-bit-requires c =
    let a = c.args in
    let f = c.args.factors in
    let p = c.requires in
    let sc = product a.factors.key.now a.factors.degree a.factors.challenge.now in
    let within = product_within a.factors.key.now a.factors.degree f.small a.factors.challenge.now f.few in
    let short : length sc ≤ 2048 = omega (arith, length_product a.factors.key.now a.factors.degree a.factors.challenge.now, f.low) in
    let small = inner_small a.factors.degree a.y.now sc a.words.now p.3 within short in (
      p.0,
      omega (arith, ap (λ (x : Measures). nat_abs x.inner) c.measured-m.ensures.value, small),
      rw length_behind (omega (arith, p.5, c.measured-m.auto.list)),
    )

pub overflow_add-entries : goal.overflow_add-entries
overflow_add-entries c =
    let f = c.args.factors in
    record { fits = omega (arith, mul-le-mul {n₁ = 2 * c.args.factors.degree} {m₁ = length c.args.factors.challenge.now} {n₂ = 2048} {m₂ = 64} (omega (arith, f.low)) f.few) }

pub returns : goal.returns
unfolding response_bit
returns c =
    let a = c.args in
    let made = c.measured-m.ensures in
    let both = c.measured-m.auto.z ∙ c.requires.4 in
    let at = 1 + 2 * a.factors.degree * length a.factors.challenge.now + 3 in
    let judged = written_in_part at _ c.measured-m.new.list (acceptance_entries c.judged-bit.result) c.judged-bit.ensures.list_after
    (rw count (omega (arith, c.requires.5, c.measured-m.auto.list))) in
    response_left a.factors.degree _ _ a.factors.challenge.now _ a.list.now _ a.y.now _ _ _ _ _
    (c.judged-bit.ensures.value ∙ ap (accepts_by _) made.value) (omega arith) c.requires.2 c.zero_all.ensures
    both made.z_after c.keep_all.ensures made.list_after judged
