-- What is known of positions that may be a challenge. Assumes nothing.
use mathlib.Core.Path.{◌≡◌, refl}
use mathlib.Core.Bool.{Bool, true, and_comm}
use mathlib.Core.List.{List, []}
use Prim.Native.Nat.{ℕ, suc, ◌-◌, ◌≤◌, ◌<◌}
use native.Mathlib.Omega.{arith}
use lib.Dec.{leb, ltb}
use lib.ListN.{length, get_or}
use borrow.Author.Tests.{leb-true, le-leb, ltb-true}
use Rattle.std.specs.Bool.{Decides}
use Rattle.std.proofs.lemmas.Bool.Decides.{Decides-below_and}
use Rattle.checks.specs.Checks.{all_below}
use Rattle.checks.proofs.JoinedTests.{both_true}
use Rattle.checks.proofs.AllBelow.{all_at}
use Rattle.challenge.specs.Challenge.{length_fits, positions_below, ascends, are_positions, is_challenge}

pub record Challenge (n : ℕ) (challenge : List ℕ) : Type 0 where
  pub few : length challenge ≤ 64
  pub below : positions_below n challenge ≡ true
  pub rising : ascends challenge ≡ true

pub positions_of : (n : ℕ) (challenge : List ℕ) → are_positions n challenge ≡ true → Challenge n challenge
unfolding are_positions
positions_of n challenge h =
    let fits = both_true (length_fits n (length challenge)) _ h in
    let positions = both_true (positions_below n challenge) (ascends challenge) fits.1 in
    record {
      few = leb-true (length challenge) 64 (both_true (leb (length challenge) 64) (leb (length challenge) n) fits.0).0;
      below = positions.0;
      rising = positions.1;
    }

-- none at all may be
pub no_positions : (n : ℕ) → are_positions n [] ≡ true
unfolding are_positions positions_below ascends all_below
no_positions n = rw (le-leb 0 n (omega arith))

pub challenge_of : (n : ℕ) (challenge : List ℕ) → is_challenge n challenge ≡ true → Challenge n challenge
unfolding is_challenge
challenge_of n challenge h = positions_of n challenge (both_true (ltb 0 (length challenge)) (are_positions n challenge) h).1

pub position_below : (n : ℕ) (challenge : List ℕ) (k : ℕ) → positions_below n challenge ≡ true → k < length challenge
    → get_or challenge k 0 < n
unfolding positions_below
position_below n challenge k below h =
    ltb-true (get_or challenge k 0) n (all_at (λ (j : ℕ). ltb (get_or challenge j 0) n) k (length challenge) h below)

pub position_rises : (challenge : List ℕ) (k : ℕ) → ascends challenge ≡ true → suc k < length challenge
    → get_or challenge k 0 < get_or challenge (suc k) 0
unfolding ascends
position_rises challenge k rising h =
    ltb-true (get_or challenge k 0) (get_or challenge (suc k) 0)
    (all_at (λ (j : ℕ). ltb (get_or challenge j 0) (get_or challenge (suc j) 0)) k (length challenge - 1) (omega arith) rising)

-- ** Tests at every number below another, by what each of them decides

pub all_decides : (test : ℕ → Bool) (P : ℕ → Type 0) (n : ℕ) → ((k : ℕ) → Decides (test k) (P k))
    → Decides (all_below test n) ((k : ℕ) → k < n → P k)
unfolding all_below
all_decides test P n each = Decides-below_and test P (all_below test) each refl (λ m. and_comm (all_below test m) (test m)) n
