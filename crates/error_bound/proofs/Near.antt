-- What it is for a value in units of 2 ^ -62 to be near a fraction. Assumes nothing.
use Prim.Native.Nat.{ℕ, ◌+◌, ◌*◌, ◌^◌, ◌≤◌}

-- a is within E units of 2 ^ 62 * S / D, where S / D is at most 1
pub record Near (E a S D : ℕ) : Type 0 where
  pub whole : a ≤ 2 ^ 62
  pub proper : S ≤ D
  pub above : a * D ≤ 2 ^ 62 * S + E * D
  pub below : 2 ^ 62 * S ≤ a * D + E * D
