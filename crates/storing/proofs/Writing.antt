-- The refusal of a write is the first that applies, and what it leaves is the record or nothing. Assumes nothing.
use mathlib.Core.Path.{◌≡◌, refl, sym, ap, ◌∙◌}
use mathlib.Core.Bool.{Bool, true, false, cond, false≢true}
use mathlib.Core.List.{List}
use mathlib.Core.Logic.{◌≢◌}
use mathlib.Core.Option.{Option, none, some}
use Prim.Native.Nat.{ℕ, ◌≤◌}
use borrow.Author.Tests.{eq-eqb, ne_eqb, eqb-true, leb-true, le-leb}
use lib.Dec.{eqb}
use lib.IntN.{ℤ}
use lib.ListN.{length}
use Rattle.bits.specs.Items.{given, passes}
use Rattle.checks.specs.Checks.{is_degree, first_refusal}
use Rattle.checks.proofs.JoinedTests.{both_true}
use Rattle.checks.proofs.Lines.{numbered, test_of, passes as Passes-line}
use Rattle.checks.proofs.RefusalTable.{FailsWhere, refuses, serves, fails_no_degree, fails_unequal, fails_either, fails_above}
use Rattle.refusals.specs.FirstRefusal.{Outside}
use Rattle.refusals.proofs.FirstRefusal.{fails_no_challenge, fails_outside}
use Rattle.lists.proofs.AtTheStart.{written}
use Rattle.challenge.specs.Challenge.{is_challenge}
use Rattle.record.specs.Record.{FieldSet, are_n, are_small, is_half, is_field_set, record_of}
use Rattle.record_writer.specs.Call.{told, write_tests, write_refusal, write_served, write_refused, write_left}
use Rattle.record_writer.proofs.WriteAnswers.{passed}
use Rattle.storing.specs.Writing.{OfTold, WriteRefusesFirst, WritesFieldSets, WritesTheRecord, UntoldUntested}

-- ** Writes that are served

-- what is known of a write that is not refused
pub record WriteServed (f : FieldSet) (room : ℕ) : Type 0 where
  pub storable : is_field_set f ≡ true
  pub fits : length (record_of f) ≤ room

pub write_served_lem : (f : FieldSet) (room : ℕ) → write_refusal f room ≡ 0 → WriteServed f room
unfolding write_refusal test_of numbered
write_served_lem f room h =
    let p : (k : ℕ) → test_of k (write_tests f room) ≡ true = λ k. Passes-line k _ refl h in
    record { storable = passed f (p 1) (p 2) (p 6) (p 15); fits = leb-true (length (record_of f)) room (p 14) }

-- fields that can be stored are not refused where their record has room
half_parts : (n : ℕ) (z : Option (List ℤ)) → passes (is_half n) z ≡ true → (passes (are_n n) z ≡ true) × (passes are_small z ≡ true)
unfolding passes
half_parts n none h = (refl, refl)
half_parts n (some z) h = both_true (are_n n z) (are_small z) h

pub storable_served : (f : FieldSet) (room : ℕ) → is_field_set f ≡ true → length (record_of f) ≤ room → write_refusal f room ≡ 0
unfolding is_field_set write_refusal first_refusal
storable_served f room h fits =
    let t = both_true (is_degree f.n) _ h in
    let u = both_true (passes (is_challenge f.n) f.challenge) _ t.1 in
    let v = both_true (passes (is_half f.n) f.z1) (passes (is_half f.n) f.z2) u.1 in
    let a = half_parts f.n f.z1 v.0 in
    let b = half_parts f.n f.z2 v.1 in
    rw (t.0, a.0, b.0, u.0, a.1, b.1, le-leb (length (record_of f)) room fits)

-- ** The refusal

-- the number that is answered
pub refusal_is : (f : FieldSet) (out : List ℕ) → (write_left f out).written.refusal ≡ write_refusal f (length out)
unfolding write_left
refusal_is f out = by (write_refusal f (length out)) (eqb (write_refusal f (length out)) 0) refl
  where
    by : (refusal : ℕ) (t : Bool) → eqb refusal 0 ≡ t → (cond t (write_served f out) (write_refused refusal out)).written.refusal ≡ refusal
    by refusal true e = sym (eqb-true refusal 0 e)
    by refusal false e = refl

-- a test of a field that may not be told
fails_of_told : {A : Type 0} (test : A → Bool) (tells : Bool) (a : A) {applies : Type 0} → FailsWhere (test a) applies
    → FailsWhere (passes test (given tells a)) (OfTold tells applies)
unfolding passes given
fails_of_told test true a f = record { fails = λ e. (refl, f.fails e); holds = λ e t. f.holds e t.1 }
fails_of_told test false a f = record { fails = λ e. absurd (false≢true (sym e)); holds = λ e t. false≢true t.0 }

lengths : (n : ℕ) (tells : Bool) (z : List ℤ) → FailsWhere (passes (are_n n) (given tells z)) (OfTold tells (length z ≢ n))
lengths n tells z = fails_of_told (are_n n) tells z (fails_unequal (length z) n)

sizes : (tells : Bool) (z : List ℤ) → FailsWhere (passes are_small (given tells z)) (OfTold tells (Outside 3263 z))
sizes tells z = fails_of_told are_small tells z (fails_outside 3263 z)

pub write_refuses_first : WriteRefusesFirst
unfolding write_refusal
write_refuses_first n fields challenge z1 z2 out =
    let f = told n fields challenge z1 z2 in
    rw (refusal_is f out)
    (refuses 1 _ (fails_no_degree n) (λ p1.
    refuses 2 _ (fails_either (lengths n fields.z1 z1) (lengths n fields.z2 z2)) (λ p2.
    refuses 6 _ (fails_of_told (is_challenge n) fields.challenge challenge (fails_no_challenge n challenge)) (λ p6.
    refuses 15 _ (fails_either (sizes fields.z1 z1) (sizes fields.z2 z2)) (λ p15.
    refuses 14 _ (fails_above (length (record_of f)) (length out)) (λ p14. serves))))))

pub writes_field_sets : WritesFieldSets
writes_field_sets f out room = (
  λ h. refusal_is f out ∙ storable_served f (length out) h room,
  λ e. (write_served_lem f (length out) (sym (refusal_is f out) ∙ e)).storable,
)

-- ** What is left

pub writes_the_record : WritesTheRecord
unfolding write_left
writes_the_record f out = record {
  served = λ h.
      let e = sym (refusal_is f out) ∙ h in
      rw (eq-eqb (write_refusal f (length out)) 0 e) (refl, written out (record_of f) (write_served_lem f (length out) e).fits);
  refused = λ h. rw (ne_eqb (write_refusal f (length out)) 0 (λ e. h (refusal_is f out ∙ e))) (refl, refl);
}

-- ** Fields that are not told

given_same : {A : Type 0} {tells : Bool} {a b : A} → (tells ≡ true → a ≡ b) → given tells a ≡ given tells b
unfolding given
given_same {tells = true} h = ap (given true) (h refl)
given_same {tells = false} h = refl

same_set : (n : ℕ) {c c' : Option (List ℕ)} {a a' b b' : Option (List ℤ)} → c ≡ c' → a ≡ a' → b ≡ b'
    → ◌≡◌ {A = FieldSet} (record { n = n; challenge = c; z1 = a; z2 = b }) (record { n = n; challenge = c'; z1 = a'; z2 = b' })
same_set n ec ea eb = rw (ec, ea, eb)

pub untold_untested : UntoldUntested
untold_untested n fields challenge challenge' z1 z1' z2 z2' out c a b =
    let same : told n fields challenge z1 z2 ≡ told n fields challenge' z1' z2' =
    same_set n (given_same c) (given_same a) (given_same b) in
    ap (λ (f : FieldSet). write_left f out) same
