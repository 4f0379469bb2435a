-- Demand 3: a read list tells the history and no more, and leaves out no place that an answer depends on. Assumes nothing.
use mathlib.Core.Path.{◌≡◌, refl, sym, ap, ap₂, ◌∙◌, subst}
use mathlib.Core.Bool.{cond}
use mathlib.Core.List.{List, [], ◌∷◌, ◌++◌}
use Prim.Native.Nat.{ℕ}
use native.Mathlib.Omega.{arith}
use lib.Dec.{eqb}
use lib.IntN.{ℤ}
use Rattle.read_list.specs.Agreement.{Agree}
use Rattle.session.specs.declared.Session.{Session}
use Rattle.session.specs.Calls.{opened}
use Rattle.session.proofs.CallLaws.{opening_is_fresh}
use Rattle.histories.specs.Histories.{Call, left_by, refusal_in, next_in, y_in, Linked, read_list, render_event}
use Rattle.histories.specs.Demand3.{NoneRefused, AllAlike, lent, Agreeing, seen, Demand3}
use Rattle.histories.proofs.Entries.{served_entries}
use Rattle.histories.proofs.Rendering.{reads_tell}
use Rattle.histories.proofs.SameCalls.{same_calls}

-- ** Lists of calls that are alike and agree

-- what follows a call that is served is lent y as the call leaves it
linked_on : (s : Session) (y : List ℤ) (c : Call) (calls : List Call) → refusal_in (left_by s c) ≡ 0 → Linked s y (c ∷ calls)
    → Linked (next_in (left_by s c)) (y_in (left_by s c)) calls
unfolding Linked
linked_on s y c calls h linked = subst (λ (refusal : ℕ). Linked (next_in (left_by s c)) (cond (eqb refusal 0) (y_in (left_by s c)) y) calls) h linked.1

-- from one session; where y is drawn in it, both lists start from the same y
same_lists : (s : Session) (y y' : List ℤ) (calls calls' : List Call) → (s.drawn ≡ 1 → y ≡ y') → Linked s y calls → Linked s y' calls'
    → NoneRefused s calls → NoneRefused s calls' → AllAlike calls calls' → Agreeing s calls calls'
    → (seen s calls ≡ seen s calls') × (read_list s calls ≡ read_list s calls')
unfolding Linked NoneRefused AllAlike Agreeing seen read_list
same_lists s y y' [] [] ys l l' h h' alike same = (refl, refl)
same_lists s y y' [] (c' ∷ calls') ys l l' h h' alike same = absurd alike
same_lists s y y' (c ∷ calls) [] ys l l' h h' alike same = absurd alike
same_lists s y y' (c ∷ calls) (c' ∷ calls') ys l l' h h' alike same =
    let agree = subst (Agree (lent c) (lent c')) (served_entries s c h.0) same.0 in
    let here = same_calls s c c' h.0 h'.0 alike.0 (λ drawn. l.0 h.0 ∙ ys drawn ∙ sym (l'.0 h'.0)) agree in
    let entries = served_entries s c h.0 ∙ ap render_event here.event_same ∙ sym (served_entries s c' h'.0) in
    let later = same_lists (next_in (left_by s c)) (y_in (left_by s c)) (y_in (left_by s c')) calls calls' (λ drawn. here.y_same)
    (linked_on s y c calls h.0 l) (rw (← here.next_same) at (linked_on s y' c' calls' h'.0 l'))
    h.1 (rw (← here.next_same) at h'.1) alike.1 same.1 in (
      ap₂ ◌∷◌ here.seen_same (later.0 ∙ ap (λ (x : Session). seen x calls') here.next_same),
      ap₂ ◌++◌ entries (later.1 ∙ ap (λ (x : Session). read_list x calls') here.next_same),
    )

-- ** From an opening

same_fields : (s s' : Session) → s.degree ≡ s'.degree → s.deviation ≡ s'.deviation → s.drawn ≡ s'.drawn → s ≡ s'
same_fields s s' degrees deviations drawn =
    let fields : (degree deviation drawn : ℕ) → Session = λ n deviation drawn. record { degree = n; deviation = deviation; drawn = drawn } in
    let same : fields s.degree s.deviation s.drawn ≡ fields s'.degree s'.deviation s'.drawn = rw (degrees, deviations, drawn) in
    same

-- nothing is drawn in either
same_opened : (n deviation n' deviation' : ℕ) → let s = (opened n deviation).session in let s' = (opened n' deviation').session in
    s.degree ≡ s'.degree → s.deviation ≡ s'.deviation → s ≡ s'
same_opened n deviation n' deviation' degrees deviations =
    same_fields _ _ degrees deviations ((opening_is_fresh n deviation).not_drawn ∙ sym (opening_is_fresh n' deviation').not_drawn)

-- ** Both halves

pub demand3 : Demand3
demand3 n deviation n' deviation' y y' calls calls' linked linked' = (
  reads_tell (opened n deviation).session (opened n' deviation').session calls calls',
  λ degrees deviations served served' alike same.
      let e = same_opened n deviation n' deviation' degrees deviations in
      let none = (opening_is_fresh n deviation).not_drawn in
      rw (← e) (same_lists (opened n deviation).session y y' calls calls' (λ drawn. absurd (omega (arith, none, drawn)))
      linked (rw (← e) at linked') served (rw (← e) at served') alike same),
)
