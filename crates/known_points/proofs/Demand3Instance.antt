-- Demand 3 at degree 4: what the calls do by computation, that they meet its premises by the laws of premises, and the rest by demand 3.
-- Assumes nothing.
use mathlib.Core.Path.{◌≡◌, refl, sym, ap, ◌∙◌}
use mathlib.Core.Bool.{Bool, true, false, not, ◌&&◌, ◌||◌}
use mathlib.Core.Logic.{⊎_elim}
use mathlib.Core.List.Memᴰ
use mathlib.Core.List.{List, [], ◌∷◌, ◌++◌, Memᴰ}
use Prim.Native.Nat.{ℕ, zero, suc, ◌<◌}
use native.Mathlib.Nat.{not-suc-le-zero}
use native.Mathlib.Omega.{arith}
use lib.Dec.{ltb, eqb}
use lib.IntN.{ℤ, pos, negsuc}
use lib.ListN.{length, take, replicate, get_or, get_or-replicate, get_or-append}
use borrow.Author.Tests.{ltb-true, eq-eqb}
use Rattle.read_list.specs.Entries.{kind_of, place_of}
use Rattle.checks.proofs.JoinedTests.{both_true}
use Rattle.session.specs.declared.Session.{Session}
use Rattle.session.specs.Calls.{Draw, draw_left, Respond, respond_left}
use Rattle.histories.specs.Histories.{Call, respond, Linked, Event, drew, history, render_event, render}
use Rattle.histories.specs.Demand3.{NoneRefused, seen}
use Rattle.histories.specs.PremiseLaws.{SameDraws, SameResponds}
use Rattle.histories.proofs.Rendering.{read_list_is_rendered}
use Rattle.histories.proofs.Demand3.{demand3}
use Rattle.histories.proofs.PremiseLaws.{no_calls_meet, draws_meet, responds_meet}
use Rattle.known_points.specs.Demand3Instance.{words_of, one_to_eight, draw_over, drawing, rejecting, responding, calls_over}
use Rattle.known_points.specs.Demand3Instance.{calls, calls', calls_rejecting, refused_respond, refused_draw, calls_refused, rounds}
use Rattle.known_points.specs.Demand3Instance.{blank_with, calls_blank, calls_drawing, between, calls_between, start_at, start, drawn_and_answered, MeetFrom, Meet, Demand3Instance}
use Rattle.known_points.proofs.Computing.{lists, whole_calls}

-- ** Agreement where what differs is not read

-- whether every place of a kind that a list names is below a bound
unfoldable places_below : (kind bound : ℕ) (list : List ℕ) → Bool
places_below kind bound [] = true
places_below kind bound (e ∷ list) = (not (eqb (kind_of e) kind) || ltb (place_of e) bound) && places_below kind bound list

place_below : (kind bound e : ℕ) (list : List ℕ) → places_below kind bound list ≡ true → Memᴰ e list → kind_of e ≡ kind
    → place_of e < bound
unfolding places_below
place_below kind bound e [] h m k = absurd (Memᴰ.not-nil m)
place_below kind bound e (f ∷ list) h m k =
    let here_and_later = both_true (not (eqb (kind_of f) kind) || ltb (place_of f) bound) (places_below kind bound list) h in
    ⊎_elim
    (λ at. here at here_and_later.0)
    (λ later. place_below kind bound e list here_and_later.1 later k)
    (Memᴰ.cases_cons m)
  where
    here : e ≡ f → (not (eqb (kind_of f) kind) || ltb (place_of f) bound) ≡ true → place_of e < bound
    here at t = ltb-true (place_of e) bound (rw (← at, eq-eqb (kind_of e) kind k) at t)

-- words that differ behind the first ones are the same at every place that such a list names
same_words_lem : (first rest rest' list : List ℕ) (e : ℕ) → places_below 2 (length first) list ≡ true → Memᴰ e list → kind_of e ≡ 2
    → get_or (first ++ rest) (place_of e) 0 ≡ get_or (first ++ rest') (place_of e) 0
same_words_lem first rest rest' list e h m k =
    let below = place_below 2 (length first) e list h m k in
    get_or-append first rest 0 (place_of e) below ∙ sym (get_or-append first rest' 0 (place_of e) below)

-- ** A draw and a respond, and calls behind them

-- the session after the draw
abbrev drawn : Session
drawn = record { degree = 4; deviation = 215; drawn = 1 }

-- the entries that a respond writes
abbrev listed_by : Respond → List ℕ
listed_by r = let left = respond_left drawn r in take left.responded.answer.entries left.list

-- the entries that a draw writes
abbrev listed_by_draw : Session → Draw → List ℕ
listed_by_draw s d = let left = draw_left s d in take left.drawn.answer.entries left.list

-- one and the same draw
draw_itself : (d : Draw) (e : ℕ) → SameDraws d d e
draw_itself d e = record { words = λ k. refl; cdt = λ k. refl; polynomial = λ k. refl }

-- what the calls do is computed, once for all that y and z have before
module _ (before before' : ℤ) where
  abbrev d : Draw
  d = drawing 0 before 0

  abbrev d' : Draw
  d' = drawing 7 before' 9

  abbrev r : Respond
  r = responding 0 before 0

  abbrev r' : Respond
  r' = responding 7 before' 9

  draws_same : (e : ℕ) → Memᴰ e (listed_by_draw start d) → SameDraws d d' e
  unfolding whole_calls lists drawing draw_over words_of places_below
  draws_same e m = record {
    words = same_words_lem (words_of 1 8) (replicate 32 0) (replicate 32 7) (listed_by_draw start d) e refl m;
    cdt = λ k. refl;
    polynomial = λ k. refl;
  }

  responds_same : (e : ℕ) → Memᴰ e (listed_by r) → SameResponds r r' e
  unfolding whole_calls lists responding one_to_eight places_below
  responds_same e m = record {
    words = same_words_lem (0 ∷ 0 ∷ 0 ∷ []) (0 ∷ []) (7 ∷ []) (listed_by r) e refl m;
    polynomial = λ k. refl;
    key = λ k. refl;
  }

  one_more : {rest rest' : List Call} → Meet (pos 0) (pos 0) rest rest'
      → Meet before before' (calls_over 0 before 0 ++ rest) (calls_over 7 before' 9 ++ rest')
  unfolding whole_calls drawing draw_over words_of one_to_eight responding calls_over
  one_more {rest} {rest'} later =
      let responds = responds_meet drawn drawn r r' rest rest' refl refl refl responds_same later in
      draws_meet start start d d' (respond r ∷ rest) (respond r' ∷ rest') refl refl refl draws_same responds

abbrev zeros : List ℤ
zeros = replicate 8 (pos 0)

none : Meet (pos 0) (pos 0) [] []
none = no_calls_meet start start zeros zeros

rounds_meet : (count : ℕ) → Meet (pos 0) (pos 0) (rounds 0 0 count) (rounds 7 9 count)
unfolding rounds
rounds_meet zero = none
rounds_meet (suc count) = one_more (pos 0) (pos 0) (rounds_meet count)

-- ** Blank responds

-- an entry of the key would be at a place below 0
blanks_same : (e : ℕ) → Memᴰ e (listed_by (blank_with (pos 7))) → SameResponds (blank_with (pos 7)) (blank_with (negsuc 6)) e
unfolding whole_calls lists blank_with one_to_eight places_below
blanks_same e m = record {
  words = λ k. refl;
  polynomial = λ k. refl;
  key = λ k. absurd (not-suc-le-zero (place_below 8 0 e (listed_by (blank_with (pos 7))) refl m k));
}

blanks_meet : Meet (pos 0) (pos 0) (calls_blank (pos 7)) (calls_blank (negsuc 6))
unfolding whole_calls drawing draw_over words_of one_to_eight blank_with calls_blank
blanks_meet =
    let r = blank_with (pos 7) in
    let r' = blank_with (negsuc 6) in
    let d = drawing 0 (pos 0) 0 in
    let responds = responds_meet drawn drawn r r' [] [] refl refl refl blanks_same none in
    draws_meet start start d d (respond r ∷ []) (respond r' ∷ []) refl refl refl (λ e m. draw_itself d e) responds

-- ** Draws at other deviations

draws_same_107 : (e : ℕ) → Memᴰ e (listed_by_draw (start_at 107) (drawing 0 (pos 0) 0)) → SameDraws (drawing 0 (pos 0) 0) (drawing 7 (pos 1) 9) e
unfolding whole_calls lists drawing draw_over words_of places_below
draws_same_107 e m = record {
  words = same_words_lem (words_of 1 8) (replicate 32 0) (replicate 32 7) (listed_by_draw (start_at 107) (drawing 0 (pos 0) 0)) e refl m;
  cdt = λ k. refl;
  polynomial = λ k. refl;
}

draws_meet_107 : MeetFrom (start_at 107) (start_at 107) (pos 0) (pos 1) (calls_drawing 0 (pos 0) 0) (calls_drawing 7 (pos 1) 9)
unfolding whole_calls drawing draw_over words_of one_to_eight calls_drawing
draws_meet_107 =
    draws_meet (start_at 107) (start_at 107) (drawing 0 (pos 0) 0) (drawing 7 (pos 1) 9) [] [] refl refl refl draws_same_107
    (no_calls_meet _ _ _ _)

between_meets : MeetFrom (start_at 107) (start_at 271) (pos 0) (pos 0) calls_between calls_between
unfolding whole_calls between draw_over words_of calls_between
between_meets =
    draws_meet (start_at 107) (start_at 271) between between [] [] refl refl refl (λ e m. draw_itself between e) (no_calls_meet _ _ _ _)

-- ** The instance

agree_nowhere : (i : ℕ) → i < 8 → get_or (replicate 8 (pos 7)) i (pos 0) ≡ get_or (replicate 8 (negsuc 6)) i (pos 0) → ⊥
agree_nowhere i h e =
    let same : pos 7 ≡ negsuc 6 = sym (get_or-replicate 8 i (pos 7) (pos 0) h) ∙ e ∙ get_or-replicate 8 i (negsuc 6) (pos 0) h in
    let z : ◌≡◌ {A = ℕ} 0 1 = cc in
    omega arith

tells_apart : (bits bits' : List Bool) → drawn_and_answered (true ∷ bits) ≡ drawn_and_answered (false ∷ bits') → ⊥
tells_apart bits bits' e = let z : ◌≡◌ {A = ℕ} 0 1 = cc in omega arith

drew_apart : (bits bits' : List Bool) → ◌≡◌ {A = List Event} (drew 4 (false ∷ bits) ∷ []) (drew 4 (true ∷ bits') ∷ []) → ⊥
drew_apart bits bits' e = let z : ◌≡◌ {A = ℕ} 0 1 = cc in omega arith

-- of a call that is refused by 2 nothing is asked
refused : {A : Type 0} → ◌≡◌ {A = ℕ} 2 0 → A
refused h = absurd (omega arith)

-- what the calls do is computed
pub demand3_instance : Demand3Instance
unfolding whole_calls lists drawing draw_over words_of one_to_eight responding calls_over rejecting calls_rejecting refused_draw refused_respond
    calls_refused blank_with calls_blank calls_drawing between calls_between Linked NoneRefused history seen render render_event
demand3_instance =
    let premises : Meet (pos 0) (pos 1) calls calls' = one_more (pos 0) (pos 1) none in
    let linked = premises.linked in
    let linked_refused : Linked start zeros calls_refused = ((λ h. refl), (refused, (refused, ((λ h. refl), tt)))) in
    let linked_rejecting : Linked start zeros calls_rejecting = ((λ h. refl), ((λ h. refl), tt)) in
    let halves = demand3 4 215 4 215 zeros (replicate 8 (pos 1)) calls calls' linked premises.linked' in
    let same = halves.1 refl refl premises.none_refused premises.none_refused' premises.alike premises.agreeing in
    let halves_blank = demand3 4 215 4 215 zeros zeros (calls_blank (pos 7)) (calls_blank (negsuc 6)) blanks_meet.linked blanks_meet.linked' in
    let same_blank = halves_blank.1 refl refl blanks_meet.none_refused blanks_meet.none_refused' blanks_meet.alike blanks_meet.agreeing in
    let told = (demand3 4 215 4 215 zeros zeros calls calls_rejecting linked linked_rejecting).0.0 in
    let halves_107 = demand3 4 107 4 107 zeros (replicate 8 (pos 1)) (calls_drawing 0 (pos 0) 0) (calls_drawing 7 (pos 1) 9) draws_meet_107.linked draws_meet_107.linked' in
    let same_107 = halves_107.1 refl refl draws_meet_107.none_refused draws_meet_107.none_refused' draws_meet_107.alike draws_meet_107.agreeing in
    let linked_271 : Linked (start_at 271) zeros (calls_drawing 0 (pos 0) 0) = ((λ h. refl), tt) in
    let over = (demand3 4 107 4 271 zeros zeros (calls_drawing 0 (pos 0) 0) (calls_drawing 0 (pos 0) 0) draws_meet_107.linked linked_271).0 in
    let told_between = (demand3 4 107 4 271 zeros zeros calls_between calls_between between_meets.linked between_meets.linked').0.0 in
    record {
      premises = premises;
      words_differ = λ e. let z = ap (λ (l : List ℕ). get_or l 32 0) e in omega arith;
      seen_same = same.0;
      reads_same = same.1;
      seen_is = refl;
      reads_are = read_list_is_rendered start calls;
      history_is = refl;
      history_is' = sym (halves.0.0 same.1);
      premises_blank = blanks_meet;
      keys_agree_nowhere = agree_nowhere;
      seen_same_blank = same_blank.0;
      reads_same_blank = same_blank.1;
      seen_is_blank = refl;
      history_is_blank = refl;
      seen_refused = refl;
      linked_refused = linked_refused;
      history_is_refused = refl;
      reads_same_refused = (demand3 4 215 4 215 zeros zeros calls_refused calls linked_refused linked).0.1 refl;
      linked_rejecting = linked_rejecting;
      none_refused_rejecting = (refl, (refl, tt));
      history_is_rejecting = refl;
      reads_differ = λ e. tells_apart (replicate 7 true) (replicate 8 true) (told e);
      any_number = rounds_meet;
      premises_107 = draws_meet_107;
      seen_same_107 = same_107.0;
      seen_is_107 = refl;
      history_same = refl;
      reads_same_over = over.1 refl;
      premises_between = between_meets;
      history_at_107 = refl;
      history_at_271 = refl;
      reads_differ_between = λ e. drew_apart (replicate 8 true) (replicate 7 true) (told_between e);
    }
