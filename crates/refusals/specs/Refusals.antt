-- The refusals of documents 01 and 02: of each call, the first that applies, or 0 where it is served. Assumes nothing.
use Rattle.std.specs.Prelude.{Bool, ◌&&◌, List, [], ◌∷◌, ℕ, ◌*◌, leb, eqb, ℤ, length}
use Rattle.signed.specs.Vectors.{all_within}
use Rattle.checks.specs.Checks.{is_degree, Line, line, first_refusal}
use Rattle.exponential.specs.Exponential.{is_polynomial}
use Rattle.deviations.specs.Deviations.{is_deviation}
use Rattle.base_sample.specs.BaseSample.{is_cdt}
use Rattle.base_sample.specs.HighWordsFirst.{is_cdt_before}
use Rattle.sampler.specs.Draw.{draw_list_length}
use Rattle.challenge.specs.Challenge.{are_positions, is_challenge}
use Rattle.challenge_product.specs.Product.{key_bound}
use Rattle.response.specs.Response.{noise_bound, respond_list_length}

-- ** Opening

abbrev pub open_tests : (n deviation : ℕ) → List Line
open_tests n deviation =
    line 1 (is_degree n)
    ∷ line 16 (is_deviation deviation)
    ∷ []

unfoldable pub open_refusal : (n deviation : ℕ) → ℕ
open_refusal n deviation = first_refusal (open_tests n deviation)

-- ** Drawing

-- where this tells which tables of 20 words are CDT tables; of the words, y and the list it looks at the lengths alone
abbrev pub draw_tests_by : (is_table : List ℕ → Bool) (n deviation limit : ℕ) (cdt polynomial : List ℕ) (words y list : ℕ) → List Line
draw_tests_by is_table n deviation limit cdt polynomial words y list =
    line 1 (is_degree n)
    ∷ line 16 (is_deviation deviation)
    ∷ line 2 (eqb (length cdt) 20 && (eqb (length polynomial) 21 && eqb y (2 * n)))
    ∷ line 3 (is_table cdt)
    ∷ line 4 (is_polynomial polynomial)
    ∷ line 5 (leb (2 * n) limit && leb limit (32 * n))
    ∷ line 7 (leb (4 * limit) words)
    ∷ line 8 (leb (draw_list_length limit) list)
    ∷ []

-- the high words of a table come first, by request S-6
abbrev pub draw_tests : (n deviation limit : ℕ) (cdt polynomial : List ℕ) (words y list : ℕ) → List Line
draw_tests = draw_tests_by is_cdt

unfoldable pub draw_refusal : (n deviation limit : ℕ) (cdt polynomial : List ℕ) (words y list : ℕ) → ℕ
draw_refusal n deviation limit cdt polynomial words y list = first_refusal (draw_tests n deviation limit cdt polynomial words y list)

-- by document 01's order of a table's words
unfoldable pub draw_refusal_before : (n deviation limit : ℕ) (cdt polynomial : List ℕ) (words y list : ℕ) → ℕ
draw_refusal_before n deviation limit cdt polynomial words y list =
    first_refusal (draw_tests_by is_cdt_before n deviation limit cdt polynomial words y list)

-- ** Responding

-- as to y and the key: nothing is drawn, or a value is out of range; 1 is drawn, and every other number is not
abbrev pub noise_tests : (drawn : ℕ) (key y : List ℤ) → List Line
noise_tests drawn key y =
    line 9 (eqb drawn 1)
    ∷ line 10 (all_within key_bound key)
    ∷ line 11 (all_within noise_bound y)
    ∷ []

unfoldable pub noise_refusal : (drawn : ℕ) (key y : List ℤ) → ℕ
noise_refusal drawn key y = first_refusal (noise_tests drawn key y)

-- where this tells which challenges are answered; of the words, z and the list it looks at the lengths alone
abbrev pub respond_tests_by : (answers : (n : ℕ) (challenge : List ℕ) → Bool)
    (n deviation drawn : ℕ) (challenge polynomial : List ℕ) (words : ℕ) (key y : List ℤ) (z list : ℕ)
    → List Line
respond_tests_by answers n deviation drawn challenge polynomial words key y z list =
    line 1 (is_degree n)
    ∷ line 16 (is_deviation deviation)
    ∷ line 17 (eqb deviation 215)
    ∷ line 2 (eqb (length polynomial) 21 && (eqb (length y) (2 * n) && (eqb z (2 * n) && eqb (length key) (2 * n))))
    ∷ line 4 (is_polynomial polynomial)
    ∷ line 6 (answers n challenge)
    ∷ line 7 (leb 3 words)
    ∷ line 8 (leb (respond_list_length n (length challenge)) list)
    ∷ noise_tests drawn key y

-- the empty challenge is answered too, by request S-5
abbrev pub respond_tests : (n deviation drawn : ℕ) (challenge polynomial : List ℕ) (words : ℕ) (key y : List ℤ) (z list : ℕ)
    → List Line
respond_tests = respond_tests_by are_positions

unfoldable pub respond_refusal : (n deviation drawn : ℕ) (challenge polynomial : List ℕ) (words : ℕ) (key y : List ℤ) (z list : ℕ)
    → ℕ
respond_refusal n deviation drawn challenge polynomial words key y z list =
    first_refusal (respond_tests n deviation drawn challenge polynomial words key y z list)

-- by document 01's line 6, by which the empty challenge was refused
unfoldable pub respond_refusal_before : (n deviation drawn : ℕ) (challenge polynomial : List ℕ) (words : ℕ) (key y : List ℤ)
    (z list : ℕ) → ℕ
respond_refusal_before n deviation drawn challenge polynomial words key y z list =
    first_refusal (respond_tests_by is_challenge n deviation drawn challenge polynomial words key y z list)
