-- What a write answers, and leaves. Assumes nothing.
use mathlib.Core.Path.{◌≡◌, refl, sym, ap₂}
use mathlib.Core.Bool.{true, ◌&&◌}
use mathlib.Core.List.{List, ◌++◌}
use mathlib.Core.Option.{Option, none, some}
use Prim.Native.Nat.{ℕ, ◌≤◌}
use native.Mathlib.Omega.{arith}
use borrow.Author.Tests.{ne_eqb}
use lib.IntN.{ℤ}
use lib.ListN.{length, drop}
use lib.Seq.{sets}
use Rattle.lists.proofs.AtTheStart.{written}
use Rattle.bits.specs.Items.{passes}
use Rattle.checks.specs.Checks.{is_degree}
use Rattle.checks.proofs.JoinedTests.{both_true}
use Rattle.challenge.specs.Challenge.{is_challenge}
use Rattle.record.specs.Record.{FieldSet, are_n, are_small, is_half, is_field_set, record_of}
use Rattle.std.specs.Prelude.{Ok, Err, Option as Lent}
use Rattle.std.specs.Bool.{then_some}
use denote.Ref.{Bor}
use Rattle.refused.specs.declared.Refusal.{Refusal}
use Rattle.refused.specs.Refusals.{number}
use Rattle.refused.proofs.Refusals.{number_pos}
use Rattle.record_writer.specs.declared.Fields.{Fields}
use Rattle.record_writer.specs.Call.{told, answer, write_refusal, after_write, write_left}
use Rattle.record_writer.specs.Told.{field_set, written_of}
use Rattle.record_writer.proofs.WriteLaws.{given_lent}

-- ** Fields that pass the tests are a field set

half_passes : (n : ℕ) (z : Option (List ℤ)) → passes (are_n n) z ≡ true → passes are_small z ≡ true → passes (is_half n) z ≡ true
unfolding passes
half_passes n none h g = refl
half_passes n (some z) h g = rw (h, g)

pub passed : (f : FieldSet) → is_degree f.n ≡ true → (passes (are_n f.n) f.z1 && passes (are_n f.n) f.z2) ≡ true
    → passes (is_challenge f.n) f.challenge ≡ true → (passes are_small f.z1 && passes are_small f.z2) ≡ true → is_field_set f ≡ true
unfolding is_field_set
passed f degree lengths challenge sizes =
    let l = both_true (passes (are_n f.n) f.z1) (passes (are_n f.n) f.z2) lengths in
    let s = both_true (passes are_small f.z1) (passes are_small f.z2) sizes in
    rw (degree, challenge, half_passes f.n f.z1 l.0 s.0) (half_passes f.n f.z2 l.1 s.1)

-- ** The fields that a call tells

pub told_is : (n : ℕ) (fields : Fields) (challenge : Bor (List ℕ)) (z1 z2 : Bor (List ℤ)) {c : Lent (Bor (List ℕ))} {a b : Lent (Bor (List ℤ))}
    → c ≡ then_some fields.challenge challenge → a ≡ then_some fields.z1 z1 → b ≡ then_some fields.z2 z2
    → field_set (record { n = n; challenge = c; z1 = a; z2 = b }) ≡ told n fields challenge.now z1.now z2.now
told_is n fields challenge z1 z2 ec ea eb =
    rw (ec, ea, eb, given_lent fields.challenge challenge, given_lent fields.z1 z1, given_lent fields.z2 z2)

-- ** What is left

pub left_refused : (f : FieldSet) (out : List ℕ) (refusal : Refusal) → number refusal ≡ write_refusal f (length out)
    → after_write (written_of (Err refusal)) out ≡ write_left f out
unfolding write_left
left_refused f out refusal e = rw (← e, ne_eqb (number refusal) 0 (λ z. omega (arith, z, number_pos refusal)))

pub left_served : (f : FieldSet) (out : List ℕ) {now : List ℕ} {size : ℕ} → write_refusal f (length out) ≡ 0 → now ≡ record_of f
    → size ≡ length (record_of f) → size ≤ length out → after_write (written_of (Ok size)) (now ++ drop size out) ≡ write_left f out
unfolding write_left
left_served f out {now = now} {size = size} e g l h =
    let whole : now ++ drop size out ≡ sets out 0 (record_of f) = rw (l, g) (sym (written out (record_of f) (omega (arith, l, h)))) in
    rw e (ap₂ (λ (k : ℕ) (page : List ℕ). after_write (answer 0 k) page) l whole)
