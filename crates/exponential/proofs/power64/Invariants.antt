use mathlib.Core.Path.{◌≡◌}
use Prim.Native.Nat.{◌-◌, ◌≤◌, ◌^◌}
use Rattle.exponential.specs.Exponential.{squarings}
use Rattle.exponential.proofs.power64.Given as goal

-- the squarings left, of a, give the answer
abbrev pub invariant-loop : goal.invariant-loop
invariant-loop l = (l.a ≤ 2 ^ 62) × (squarings (6 - l.counter) l.a ≡ squarings 6 l.first)
