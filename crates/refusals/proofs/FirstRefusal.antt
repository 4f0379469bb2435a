-- The refusals of Refusals are the first that apply, by the table of documents 01 and 02. Assumes nothing.
use mathlib.Core.Path.{◌≡◌, refl, sym, ap, ◌∙◌}
use mathlib.Core.Bool.{Bool, true, false, ◌&&◌, false≢true}
use mathlib.Core.List.{List, [], ◌∷◌}
use mathlib.Core.Logic.{◌⊎◌, ◌≢◌}
use Prim.Native.Nat.{ℕ, suc, ◌+◌, ◌-◌, ◌*◌, ◌^◌, ◌<◌}
use native.Mathlib.Nat.{mul-zero}
use native.Mathlib.Omega.{arith}
use lib.Dec.{leb, eqb}
use lib.IntN.{ℤ, nat_abs}
use lib.ListN.{length, get_or}
use lib.Seq.{ext_get_or}
use borrow.Author.Tests.{eqb-true, leb-false}
use Rattle.signed.specs.Vectors.{all_within}
use Rattle.signed.proofs.Vectors.{within_at}
use Rattle.checks.specs.Checks.{among, is_degree, all_below, Line, line, first_refusal}
use Rattle.checks.specs.RefusalTable.{Refuses, Serves}
use Rattle.checks.proofs.JoinedTests.{both_true}
use Rattle.checks.proofs.AllBelow.{all_at}
use Rattle.checks.proofs.Lines.{from}
use Rattle.checks.proofs.RefusalTable.{FailsWhere, refuses, skips, serves, fails_unequal, fails_above, fails_from, fails_either, fails_somewhere}
use Rattle.checks.proofs.RefusalTable.{fails_no_degree, fails_empty}
use Rattle.exponential.specs.Exponential.{polynomial_entry, entries_from, polynomial, is_polynomial}
use Rattle.exponential.proofs.Table.{table_at, polynomial_of, is_polynomial_lem}
use Rattle.deviations.specs.Deviations.{is_deviation}
use Rattle.deviations.proofs.Deviations.{is_deviation_lem, deviation_of}
use Rattle.base_sample.specs.BaseSample.{threshold, words_small, never_falls, is_cdt}
use Rattle.challenge.specs.Challenge.{positions_below, ascends, are_positions, is_challenge}
use Rattle.challenge.proofs.Positions.{no_positions}
use Rattle.response.specs.Response.{respond_list_length}
use Rattle.refusals.specs.Refusals.{open_refusal, draw_tests, draw_refusal, noise_tests, respond_tests, respond_refusal}
use Rattle.refusals.specs.FirstRefusal.{NoDeviation, NoCdt, NoPolynomial, TooMany, NoPositions, Outside}
use Rattle.refusals.specs.FirstRefusal.{DrawLines, NoiseLines, RespondLines, BlankLines}
use Rattle.refusals.specs.FirstRefusal.{OpeningRefuses, DrawRefuses, RespondRefuses, RefusesAt215}

-- ** The tests of single lines

fails_no_cdt : (cdt : List ℕ) → FailsWhere (is_cdt cdt) (NoCdt cdt)
unfolding is_cdt words_small never_falls
fails_no_cdt cdt =
    fails_either (fails_somewhere _ _ (λ i. fails_from (get_or cdt i 0) (2 ^ 62)) 20)
    (fails_somewhere _ _ (λ i. fails_above (threshold cdt i) (threshold cdt (suc i))) 9)

-- a table of 21 words whose entries are all right is the polynomial table
module _ (table : List ℕ) (l : length table ≡ 21) where
  entry_right : ℕ → Bool
  entry_right j = eqb (get_or table j 0) (polynomial_entry j)

  entry_tested : (j : ℕ) → FailsWhere (entry_right j) (get_or table j 0 ≢ polynomial_entry j)
  unfolding entry_right
  entry_tested j = fails_unequal (get_or table j 0) (polynomial_entry j)

  all_right : all_below entry_right 21 ≡ true → table ≡ polynomial
  unfolding entry_right polynomial entries_from
  all_right e = ext_get_or 0 table polynomial l (λ j h. let b : j < 21 = rw l at h in eqb-true (get_or table j 0) (polynomial_entry j) (all_at entry_right j 21 b e) ∙ sym (table_at j b))

  fails_no_polynomial : FailsWhere (is_polynomial table) (NoPolynomial table)
  fails_no_polynomial = record {
    fails = λ e. by e (all_below entry_right 21) refl;
    holds = λ e s. s.there (ap (λ (t : List ℕ). get_or t s.place 0) (polynomial_of table e) ∙ table_at s.place s.within);
  }
    where
      by : is_polynomial table ≡ false → (t : Bool) → all_below entry_right 21 ≡ t → NoPolynomial table
      by e true f = absurd (false≢true (sym e ∙ sym (is_polynomial_lem table (all_right f))))
      by e false f = (fails_somewhere entry_right _ entry_tested 21).fails f

pub fails_outside : (bound : ℕ) (values : List ℤ) → FailsWhere (all_within bound values) (Outside bound values)
unfolding all_within
fails_outside bound values = record {
  fails = somewhere values;
  holds = λ e s. let h = within_at bound values e s.place in let g = s.there in omega arith;
}
  where
    by : (v : ℤ) (values : List ℤ) → (all_within bound values ≡ false → Outside bound values) → (t : Bool) → leb (nat_abs v) bound ≡ t
        → (t && all_within bound values) ≡ false → Outside bound (v ∷ values)
    by v values later true f e = let s = later e in record { place = suc s.place; within = omega (arith, s.within); there = s.there }
    by v values later false f e = record { place = 0; within = omega arith; there = leb-false (nat_abs v) bound f }

    somewhere : (values : List ℤ) → all_within bound values ≡ false → Outside bound values
    somewhere [] e = absurd (false≢true (sym e))
    somewhere (v ∷ values) e = by v values (somewhere values) (leb (nat_abs v) bound) refl e

fails_no_positions : (n : ℕ) (challenge : List ℕ)
    → FailsWhere (are_positions n challenge) (TooMany n (length challenge) ⊎ NoPositions n challenge)
unfolding are_positions positions_below ascends
fails_no_positions n challenge =
    let count = length challenge in
    fails_either (fails_either (fails_above count 64) (fails_above count n))
    (fails_either
    (fails_somewhere _ _ (λ k. fails_from (get_or challenge k 0) n) count)
    (fails_somewhere _ _ (λ k. fails_from (get_or challenge k 0) (get_or challenge (suc k) 0)) (count - 1)))

pub fails_no_challenge : (n : ℕ) (challenge : List ℕ)
    → FailsWhere (is_challenge n challenge) ((length challenge ≡ 0) ⊎ TooMany n (length challenge) ⊎ NoPositions n challenge)
unfolding is_challenge
fails_no_challenge n challenge = fails_either (fails_empty (length challenge)) (fails_no_positions n challenge)

-- ** The lines of a draw

draw_lines : (n deviation limit : ℕ) (cdt table : List ℕ) (words y list : ℕ)
    → DrawLines n limit cdt table words y list (first_refusal (from 2 (draw_tests n deviation limit cdt table words y list)))
unfolding from
draw_lines n deviation limit cdt table words y list =
    refuses 2 _ (fails_either (fails_unequal (length cdt) 20) (fails_either (fails_unequal (length table) 21) (fails_unequal y (2 * n)))) (λ p2.
    refuses 3 _ (fails_no_cdt cdt) (λ p3.
    refuses 4 _ (fails_no_polynomial table (twenty_one p2)) (λ p4.
    refuses 5 _ (fails_either (fails_above (2 * n) limit) (fails_above limit (32 * n))) (λ p5.
    refuses 7 _ (fails_above (4 * limit) words) (λ p7.
    refuses 8 _ (fails_above (46 * limit + 2) list) (λ p8. serves))))))
  where
    twenty_one : (eqb (length cdt) 20 && (eqb (length table) 21 && eqb y (2 * n))) ≡ true → length table ≡ 21
    twenty_one e = eqb-true (length table) 21 (both_true (eqb (length table) 21) _ (both_true (eqb (length cdt) 20) _ e).1).0

-- ** The lines of a respond

-- as to y and the key
noise_lines : (drawn : ℕ) (key y : List ℤ) → NoiseLines drawn key y (first_refusal (noise_tests drawn key y))
noise_lines drawn key y =
    refuses 9 _ (fails_unequal drawn 1) (λ p9.
    refuses 10 _ (fails_outside 7 key) (λ p10.
    refuses 11 _ (fails_outside 2815 y) (λ p11. serves)))

-- and those before its challenge, whatever follows them
module _ (n : ℕ) (table : List ℕ) (y key : List ℤ) (z : ℕ) (later : ℕ → Type 0) (lines : List Line) where
  lengths : Bool
  lengths = eqb (length table) 21 && (eqb (length y) (2 * n) && (eqb z (2 * n) && eqb (length key) (2 * n)))

  before_challenge : later (first_refusal lines) →
      Refuses 2 ((length table ≢ 21) ⊎ (length y ≢ 2 * n) ⊎ (z ≢ 2 * n) ⊎ (length key ≢ 2 * n))
      (Refuses 4 (NoPolynomial table) later)
      (first_refusal (line 2 lengths ∷ line 4 (is_polynomial table) ∷ lines))
  unfolding lengths
  before_challenge rest =
      refuses 2 _ (fails_either (fails_unequal (length table) 21) (fails_either (fails_unequal (length y) (2 * n)) (fails_either (fails_unequal z (2 * n)) (fails_unequal (length key) (2 * n))))) (λ p2.
      refuses 4 _ (fails_no_polynomial table (eqb-true (length table) 21 (both_true (eqb (length table) 21) _ p2).0)) (λ p4. rest))

module _ (n deviation drawn : ℕ) (table : List ℕ) (words : ℕ) (key y : List ℤ) (z list : ℕ) where
  respond_lines : (challenge : List ℕ)
      → RespondLines n drawn challenge table words key y z list
      (first_refusal (from 2 (respond_tests n deviation drawn challenge table words key y z list)))
  unfolding from lengths
  respond_lines challenge =
      before_challenge n table y key z _ _
      (refuses 6 _ (fails_no_positions n challenge) (λ p6.
      refuses 7 _ (fails_above 3 words) (λ p7.
      refuses 8 _ (fails_above (2 * n * length challenge + 47) list) (λ p8. noise_lines drawn key y))))

  blank_lines : BlankLines n drawn table words key y z list (first_refusal (from 2 (respond_tests n deviation drawn [] table words key y z list)))
  unfolding from lengths
  blank_lines =
      before_challenge n table y key z _ _
      (rw (skips 6 _ (no_positions n))
      (refuses 7 _ (fails_above 3 words) (λ p7.
      refuses 8 _ no_key_entries (λ p8. noise_lines drawn key y))))
    where
      no_key_entries : FailsWhere (leb (respond_list_length n 0) list) (list < 47)
      no_key_entries = rw (mul-zero (2 * n)) (fails_above 47 list)

-- ** The whole table

fails_no_deviation : (deviation : ℕ) → FailsWhere (is_deviation deviation) (NoDeviation deviation)
fails_no_deviation deviation = record {
  fails = λ e one. false≢true (sym e ∙ sym (is_deviation_lem deviation one));
  holds = λ e none. none (deviation_of deviation e);
}

-- 215 is one of the four
is_215 : is_deviation 215 ≡ true
unfolding is_deviation among
is_215 = refl

module _ (n : ℕ) (later : ℕ → Type 0) (lines : List Line) (rest : later (first_refusal lines)) where
  deviation_first : (deviation : ℕ)
      → DrawRefuses n deviation later (first_refusal (line 1 (is_degree n) ∷ line 16 (is_deviation deviation) ∷ lines))
  deviation_first deviation = refuses 1 _ (fails_no_degree n) (λ p1. refuses 16 _ (fails_no_deviation deviation) (λ p16. rest))

  at_215 : RefusesAt215 n later (first_refusal (line 1 (is_degree n) ∷ line 16 (is_deviation 215) ∷ lines))
  at_215 = refuses 1 _ (fails_no_degree n) (λ p1. rw (skips 16 lines is_215) rest)

pub opening_refuses : (n deviation : ℕ) → OpeningRefuses n deviation (open_refusal n deviation)
unfolding open_refusal
opening_refuses n deviation = deviation_first n _ [] serves deviation

pub opening_refuses_at_215 : (n : ℕ) → RefusesAt215 n Serves (open_refusal n 215)
unfolding open_refusal
opening_refuses_at_215 n = at_215 n _ [] serves

module _ (n limit : ℕ) (cdt table : List ℕ) (words y list : ℕ) where
  pub draw_refuses : (deviation : ℕ)
      → DrawRefuses n deviation (DrawLines n limit cdt table words y list) (draw_refusal n deviation limit cdt table words y list)
  unfolding draw_refusal from
  draw_refuses deviation = deviation_first n _ _ (draw_lines n deviation limit cdt table words y list) deviation

  pub draw_refuses_at_215 : RefusesAt215 n (DrawLines n limit cdt table words y list) (draw_refusal n 215 limit cdt table words y list)
  unfolding draw_refusal from
  draw_refuses_at_215 = at_215 n _ _ (draw_lines n 215 limit cdt table words y list)

module _ (n drawn : ℕ) (table : List ℕ) (words : ℕ) (key y : List ℤ) (z list : ℕ) where
  pub respond_refuses : (deviation : ℕ) (challenge : List ℕ)
      → RespondRefuses n deviation (RespondLines n drawn challenge table words key y z list)
      (respond_refusal n deviation drawn challenge table words key y z list)
  unfolding respond_refusal from
  respond_refuses deviation challenge =
      deviation_first n _ _ (refuses 17 _ (fails_unequal deviation 215) (λ p17. respond_lines n deviation drawn table words key y z list challenge)) deviation

  pub blank_refuses : (deviation : ℕ)
      → RespondRefuses n deviation (BlankLines n drawn table words key y z list) (respond_refusal n deviation drawn [] table words key y z list)
  unfolding respond_refusal from
  blank_refuses deviation =
      deviation_first n _ _ (refuses 17 _ (fails_unequal deviation 215) (λ p17. blank_lines n deviation drawn table words key y z list)) deviation

  pub respond_refuses_at_215 : (challenge : List ℕ)
      → RefusesAt215 n (RespondLines n drawn challenge table words key y z list)
      (respond_refusal n 215 drawn challenge table words key y z list)
  unfolding respond_refusal from
  respond_refuses_at_215 challenge = at_215 n _ _ (rw (skips 17 _ refl) (respond_lines n 215 drawn table words key y z list challenge))
