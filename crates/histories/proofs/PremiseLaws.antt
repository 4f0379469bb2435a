-- What demand 3's second half asks of two lists of calls is no more than document 01 says. Assumes nothing.
use mathlib.Core.Path.{◌≡◌, refl, subst}
use mathlib.Core.List.{List, ◌∷◌, Memᴰ}
use borrow.Author.Tests.{eq-eqb}
use Rattle.read_list.specs.Agreement.{Agree}
use Rattle.session.specs.declared.Session.{Session}
use Rattle.histories.specs.Histories.{Call, draw, respond, left_by, refusal_in, next_in, y_in, entries_in, lent_y, Linked}
use Rattle.histories.specs.Demand3.{NoneRefused, Alike, AllAlike, lent, Agreeing}
use Rattle.histories.specs.PremiseLaws.{Premises, NoCallsMeet, DrawsMeet, RespondsMeet}
use Rattle.session.proofs.Calls.{draw_wrote, respond_wrote}

pub no_calls_meet : NoCallsMeet
unfolding Linked NoneRefused AllAlike Agreeing
no_calls_meet s s' y y' = record { linked = tt; linked' = tt; none_refused = tt; none_refused' = tt; alike = tt; agreeing = tt }

calls_meet : (s s' : Session) (c c' : Call) (calls calls' : List Call) → let left = left_by s c in let left' = left_by s' c' in
    refusal_in left ≡ 0 → refusal_in left' ≡ 0 → Alike c c' → Agree (lent c) (lent c') (entries_in left)
    → Premises (next_in left) (next_in left') (y_in left) (y_in left') calls calls'
    → Premises s s' (lent_y c) (lent_y c') (c ∷ calls) (c' ∷ calls')
unfolding Linked NoneRefused AllAlike Agreeing
calls_meet s s' c c' calls calls' served served' alike same later = record {
  linked = ((λ h. refl), rw (eq-eqb _ 0 served) later.linked);
  linked' = ((λ h. refl), rw (eq-eqb _ 0 served') later.linked');
  none_refused = (served, later.none_refused);
  none_refused' = (served', later.none_refused');
  alike = (alike, later.alike);
  agreeing = (same, later.agreeing);
}

pub draws_meet : DrawsMeet
unfolding left_by
draws_meet s s' d d' calls calls' served served' limits same later =
    calls_meet s s' (draw d) (draw d') calls calls' served served' limits
    (λ e m. let here = same e (subst (Memᴰ e) (draw_wrote s d).filled m) in
    record { words = here.words; cdt = here.cdt; polynomial = here.polynomial; key = λ k. refl })
    later

pub responds_meet : RespondsMeet
unfolding left_by
responds_meet s s' r r' calls calls' served served' challenges same later =
    calls_meet s s' (respond r) (respond r') calls calls' served served' challenges
    (λ e m. let here = same e (subst (Memᴰ e) (respond_wrote s r).filled m) in
    record { words = here.words; cdt = λ k. refl; polynomial = here.polynomial; key = here.key })
    later
