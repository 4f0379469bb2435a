-- `session::Session::open` meets its contract. Assumes nothing.
use borrow.Author.Tests.{ne_eqb}
use mathlib.Core.Path.{◌≡◌}
use mathlib.Core.Bool.{cond}
use Prim.Native.Nat.{ℕ}
use native.Mathlib.Omega.{arith}
use lib.Dec.{eqb}
use Rattle.refused.proofs.Refusals.{number_pos}
use Rattle.refusals.specs.Refusals.{open_refusal}
use Rattle.session.specs.declared.Session.{Session}
use Rattle.session.specs.declared.Opened.{Opened}
use Rattle.session.specs.Calls.{fresh, opened}
use Rattle.session.proofs.Session.open.Goals as goal

opens : (n deviation refusal : ℕ) (session : Session) → refusal ≡ open_refusal n deviation
    → session ≡ cond (eqb refusal 0) (fresh n deviation) (fresh 0 0)
    → ◌≡◌ {A = Opened} (record { refusal = refusal; session = session }) (opened n deviation)
unfolding opened
opens n deviation refusal session e made = rw (made, e)

pub returns-in-Err : goal.returns-in-Err
returns-in-Err c =
    let refused = ne_eqb c.number.result 0 (λ e. absurd (omega (arith, e, c.number.ensures, number_pos c.in-Err.refusal))) in
    opens _ _ _ _ (rw c.number.ensures c.in-Err.ensures) (rw refused c.fresh.ensures)

pub returns-in-Ok : goal.returns-in-Ok
returns-in-Ok c = opens _ _ _ _ c.in-Ok.ensures c.fresh-in-Ok.ensures
