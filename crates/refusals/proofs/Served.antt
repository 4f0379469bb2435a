-- What is known of a call that is not refused. Assumes nothing.
use mathlib.Core.Path.{◌≡◌, refl}
use mathlib.Core.Bool.{true}
use mathlib.Core.List.{List}
use Prim.Native.Nat.{ℕ, ◌*◌, ◌≤◌}
use lib.Dec.{leb, eqb}
use lib.IntN.{ℤ}
use lib.ListN.{length}
use borrow.Author.Tests.{eqb-true, leb-true}
use Rattle.signed.specs.Vectors.{all_within}
use Rattle.checks.specs.Checks.{is_degree}
use Rattle.checks.proofs.JoinedTests.{both_true}
use Rattle.checks.proofs.Lines.{numbered, test_of, passes}
use Rattle.exponential.specs.Exponential.{polynomial}
use Rattle.exponential.proofs.Table.{polynomial_of}
use Rattle.deviations.specs.Deviations.{is_deviation}
use Rattle.base_sample.specs.BaseSample.{threshold, words_small, never_falls, is_cdt}
use Rattle.challenge.proofs.Positions.{Challenge, positions_of}
use Rattle.challenge_product.specs.Product.{key_bound}
use Rattle.sampler.specs.Draw.{draw_list_length}
use Rattle.response.specs.Response.{noise_bound, respond_list_length}
use Rattle.refusals.specs.Refusals.{draw_tests, draw_refusal, respond_tests, respond_refusal}

-- a draw
pub record DrawServed (n deviation limit : ℕ) (cdt table : List ℕ) (words y list : ℕ) : Type 0 where
  pub degree : is_degree n ≡ true
  pub has_deviation : is_deviation deviation ≡ true
  pub twenty : length cdt ≡ 20
  pub small : words_small cdt ≡ true
  pub is_polynomial_lem : table ≡ polynomial
  pub both : y ≡ 2 * n
  pub limit_high : limit ≤ 32 * n
  pub words_enough : 4 * limit ≤ words
  pub list_enough : draw_list_length limit ≤ list

pub draw_served_lem : (n deviation limit : ℕ) (cdt table : List ℕ) (words y list : ℕ)
    → draw_refusal n deviation limit cdt table words y list ≡ 0 → DrawServed n deviation limit cdt table words y list
unfolding draw_refusal is_cdt test_of numbered
draw_served_lem n deviation limit cdt table words y list h =
    let p : (k : ℕ) → test_of k (draw_tests n deviation limit cdt table words y list) ≡ true = λ k. passes k _ refl h in
    let sizes = both_true (eqb (length cdt) 20) _ (p 2) in
    record {
      degree = p 1;
      has_deviation = p 16;
      twenty = eqb-true (length cdt) 20 sizes.0;
      small = (both_true (words_small cdt) (never_falls (threshold cdt)) (p 3)).0;
      is_polynomial_lem = polynomial_of table (p 4);
      both = eqb-true y (2 * n) (both_true (eqb (length table) 21) _ sizes.1).1;
      limit_high = leb-true limit (32 * n) (both_true (leb (2 * n) limit) _ (p 5)).1;
      words_enough = leb-true (4 * limit) words (p 7);
      list_enough = leb-true (draw_list_length limit) list (p 8);
    }

-- a respond
pub record RespondServed (n drawn : ℕ) (challenge table : List ℕ) (words : ℕ) (key y : List ℤ) (z list : ℕ) : Type 0 where
  pub degree : is_degree n ≡ true
  pub is_polynomial_lem : table ≡ polynomial
  pub y_both : length y ≡ 2 * n
  pub z_both : z ≡ 2 * n
  pub key_both : length key ≡ 2 * n
  pub positions : Challenge n challenge
  pub words_enough : 3 ≤ words
  pub list_enough : respond_list_length n (length challenge) ≤ list
  pub is_drawn : drawn ≡ 1
  pub key_small : all_within key_bound key ≡ true
  pub y_small : all_within noise_bound y ≡ true

pub respond_served_lem : (n deviation drawn : ℕ) (challenge table : List ℕ) (words : ℕ) (key y : List ℤ) (z list : ℕ)
    → respond_refusal n deviation drawn challenge table words key y z list ≡ 0
    → RespondServed n drawn challenge table words key y z list
unfolding respond_refusal test_of numbered
respond_served_lem n deviation drawn challenge table words key y z list h =
    let p : (k : ℕ) → test_of k (respond_tests n deviation drawn challenge table words key y z list) ≡ true = λ k. passes k _ refl h in
    let sizes = both_true (eqb (length y) (2 * n)) _ (both_true (eqb (length table) 21) _ (p 2)).1 in
    let z_key = both_true (eqb z (2 * n)) (eqb (length key) (2 * n)) sizes.1 in
    record {
      degree = p 1;
      is_polynomial_lem = polynomial_of table (p 4);
      y_both = eqb-true (length y) (2 * n) sizes.0;
      z_both = eqb-true z (2 * n) z_key.0;
      key_both = eqb-true (length key) (2 * n) z_key.1;
      positions = positions_of n challenge (p 6);
      words_enough = leb-true 3 words (p 7);
      list_enough = leb-true (respond_list_length n (length challenge)) list (p 8);
      is_drawn = eqb-true drawn 1 (p 9);
      key_small = p 10;
      y_small = p 11;
    }
