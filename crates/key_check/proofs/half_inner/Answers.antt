-- `key_check::half_inner` meets its contract: from place c on the rotation is direct, and before it wraps. Assumes nothing.
use Rattle.std.proofs.Common.{arith, ◌≡◌, ◌≤◌, ◌<◌, ◌+◌, ◌-◌, ◌*◌, length, get_or, take, drop, ℕ, List, ℤ, pos, nat_abs, ◌-ℤ◌, ap₂, ◌∙◌}
use Rattle.std.proofs.lemmas.Int.{ints}
use Rattle.std.proofs.lemmas.List.{get_or-take, get_or-drop, length-take, length-drop}
use mir.Syntax.{w32}
use mir.Val.{SFits}
use Rattle.signed.proofs.Signs.{read_back, fits_of_abs}
use Rattle.signed.proofs.Vectors.{within_at}
use Rattle.key_check.specs.Rows.{Keyed, AreSmall}
use Rattle.key_check.proofs.Stretches.{half_by_stretches, take_small, drop_small}
use Rattle.key_check.proofs.half_inner.Goals as goal
use Rattle.key_check.proofs.half_inner.Goals.{After-stretch-wrapped}

-- ** A half of the key

abbrev half_of : (key : List ℤ) (base n : ℕ) → List ℤ
half_of key base n = take (base + n - base) (drop base key)

module _ (key : List ℤ) (n base : ℕ) (k : Keyed key n) (h : base ≤ n) where
  half_small : AreSmall (half_of key base n)
  half_small = take_small (base + n - base) (drop base key) (drop_small base key (within_at 7 key k.small))

  half_size : length (half_of key base n) ≡ n
  half_size = omega (arith, length-take (base + n - base) (drop base key), length-drop base key, k.both)

  half_at : (p : ℕ) → p < n → get_or (half_of key base n) p (pos 0) ≡ get_or key (base + p) (pos 0)
  half_at p g = get_or-take (base + n - base) (drop base key) p (pos 0) (omega arith) ∙ get_or-drop base key p (pos 0)

-- ** What the code asks for

pub stretch-direct-requires : goal.stretch-direct-requires
stretch-direct-requires c =
    let a = c.args in
    let half = half_of a.key.now a.base a.n in
    let small = half_small a.key.now a.n a.base c.requires.0 c.requires.1 in
    let size = half_size a.key.now a.n a.base c.requires.0 c.requires.1 in
    let few = c.requires.0.most in (
      take_small (a.n - a.c) half small,
      take_small (length half - a.c) (drop a.c half) (drop_small a.c half small),
      omega (arith, length-take (a.n - a.c) half, length-take (length half - a.c) (drop a.c half), length-drop a.c half),
      omega (arith, length-take (a.n - a.c) half),
    )

pub stretch-wrapped-requires : goal.stretch-wrapped-requires
stretch-wrapped-requires c =
    let a = c.args in
    let half = half_of a.key.now a.base a.n in
    let small = half_small a.key.now a.n a.base c.requires.0 c.requires.1 in
    let size = half_size a.key.now a.n a.base c.requires.0 c.requires.1 in
    let few = c.requires.0.most in
    let wraps = length-take (length half - (a.n - a.c)) (drop (a.n - a.c) half) in (
      take_small (length half - (a.n - a.c)) (drop (a.n - a.c) half) (drop_small (a.n - a.c) half small),
      take_small a.c half small,
      omega (arith, wraps, length-drop (a.n - a.c) half, length-take a.c half),
      omega (arith, wraps, length-drop (a.n - a.c) half),
    )

module _ (c : After-stretch-wrapped) where
  abbrev taken : ℤ
  taken = c.stretch-direct.result -ℤ c.stretch-wrapped.result

  direct_fits : SFits w32 c.stretch-direct.result
  direct_fits = record { sfits = c.stretch-direct.type_inv }

  wrapped_fits : SFits w32 c.stretch-wrapped.result
  wrapped_fits = record { sfits = c.stretch-wrapped.type_inv }

  small : nat_abs taken ≤ 49 * c.args.n
  small =
      let a = c.args in
      let half = half_of a.key.now a.base a.n in
      let size = half_size a.key.now a.n a.base c.requires.0 c.requires.1 in
      omega (
        arith,
        ints,
        c.stretch-direct.ensures.1,
        c.stretch-wrapped.ensures.1,
        length-take (a.n - a.c) half,
        length-take (length half - (a.n - a.c)) (drop (a.n - a.c) half),
        length-drop (a.n - a.c) half,
      )

  taken_fits : SFits w32 taken
  taken_fits = fits_of_abs (omega (arith, small, c.requires.0.most))

pub returns : goal.returns
returns c =
    let here = (goal.at.returns c).After-stretch-wrapped in
    let a = c.args in
    let half = half_of a.key.now a.base a.n in
    rw (read_back (direct_fits here), read_back (wrapped_fits here), read_back (taken_fits here)) (
      ap₂ (λ (x y : ℤ). x -ℤ y) c.stretch-direct.ensures.0 c.stretch-wrapped.ensures.0
          ∙ half_by_stretches a.key.now half a.n a.base a.c c.requires.2 (half_size a.key.now a.n a.base c.requires.0 c.requires.1)
          (half_at a.key.now a.n a.base c.requires.0 c.requires.1),
      small here,
    )
