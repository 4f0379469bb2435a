-- `challenge_product::Factors::half` meets its contract: after i outputs, what is done and what the others give are the half. Assumes nothing.
use mathlib.Core.Path.{◌≡◌, ap, ◌∙◌}
use Prim.Native.Nat.{ℕ, ◌+◌, ◌-◌, ◌*◌, ◌≤◌}
use native.Mathlib.Nat.{mul-le-mul_right}
use native.Mathlib.Omega.{arith}
use lib.ListN.{set, length}
use lib.IntN.{ℤ, nat_abs}
use mir.Syntax.{w32}
use mir.Val.{to_z, of_z}
use Rattle.signed.proofs.Signs.{read_back}
use Rattle.read_list.proofs.InPart.{written_in_part}
use Rattle.challenge_product.specs.Product.{output_at, output_entries}
use Rattle.challenge_product.proofs.ProductSizes.{output_within, half_bound, length_output_entries}
use Rattle.challenge_product.proofs.HalfByOutputs.{square_fits, half_more, half_end}
use Rattle.challenge_product.proofs.Factors.half.Goals as goal
use Rattle.challenge_product.proofs.Factors.half.Goals.{After-output_at-output}

-- ** What is known in a turn

-- the output is read back as it is
output_is : (c : After-output_at-output) → let a = c.args in
    to_z w32 (of_z w32 c.output_at-output.result) ≡ output_at a.self.key.now a.self.degree a.base c.loop-i.i a.self.challenge.now
output_is c = read_back {w = w32} (record { sfits = c.output_at-output.type_inv }) ∙ c.output_at-output.ensures.0

-- the square of a number that is another is the other's
square_of : {m : ℕ} {x y : ℤ} → m ≡ nat_abs x * nat_abs x → x ≡ y → m ≡ nat_abs y * nat_abs y
square_of m e = m ∙ ap (λ (v : ℤ). nat_abs v * nat_abs v) e

-- ** What the code asks for

pub square-squares-requires : goal.square-squares-requires
square-squares-requires c =
    let a = c.args in
    let within = output_within a.self.key.now a.self.degree c.args.self.small a.base c.loop-i.i a.self.challenge.now in
    rw (output_is (goal.at.square-squares-requires c).After-output_at-output) (omega (arith, within, c.args.self.few))

pub overflow_add-squares : goal.overflow_add-squares
overflow_add-squares c =
    let a = c.args in
    let square = square_of c.square-squares.ensures (output_is (goal.at.overflow_add-squares c).After-output_at-output) in
    let bound = half_bound a.self.key.now a.self.degree a.base a.self.challenge.now c.args.self.small c.args.self.few in
    record { fits = omega (arith, square, square_fits c.loop-i.invariant c.loop-i-test.true, bound, c.args.self.low) }

pub loop-i-preserved : goal.loop-i-preserved
loop-i-preserved c =
    let a = c.args in
    let l = c.loop-i in
    let output = output_is (goal.at.loop-i-preserved c).After-output_at-output in
    let entries = output_entries a.self.degree a.base l.i a.self.challenge.now in
    let room : length entries ≤ length l.list - l.i * length a.self.challenge.now =
    omega (arith, length_output_entries a.self.degree a.base l.i a.self.challenge.now, mul-le-mul_right (length a.self.challenge.now) c.loop-i-test.true, l.auto.list, c.requires.2) in
    half_more l.invariant c.loop-i-test.true
    (ap (λ (v : ℤ). set l.z (a.base + l.i) v) output)
    (written_in_part (l.i * length a.self.challenge.now) _ l.list entries c.output_at-output.ensures.1 room)
    (ap (λ (m : ℕ). l.squares + m) (square_of c.square-squares.ensures output))

pub returns : goal.returns
returns c =
    let all = half_end c.loop-i.invariant c.loop-i-test.false in
    record { value = all.0; z_after = all.1.0; list_after = all.1.1 }
