-- Request S-5 in numbers, at degree 4, and for Z at 32: what a respond to the empty challenge is still refused for, what it gives, and
-- that the key check and the record want a position as before. negsuc k is -(k + 1). Assumes nothing.
use Rattle.std.specs.Prelude.{◌≡◌, Bool, true, false, List, [], ◌∷◌, ◌++◌, ℕ, ◌*◌, ℤ, pos, negsuc, length, replicate}
use Rattle.std.proofs.Math.Option.{none}
use Rattle.read_list.specs.Entries.{entry}
use Rattle.exponential.specs.Exponential.{polynomial}
use Rattle.response.specs.Response.{respond_entries}
use Rattle.refusals.specs.Refusals.{respond_refusal, respond_refusal_before}
use Rattle.session.specs.Calls.{respond_of, RespondLeft, respond_left}
use Rattle.key_check.specs.KeyCheck.{answer, key_answer}
use Rattle.record.specs.Reading.{field_set_of}
use Rattle.known_points.specs.KnownPoints.{three, with_zeros}
use Rattle.known_points.specs.ReadLists.{exponential_reads}
use Rattle.known_points.specs.RespondRefusals.{zeros, wrong_key, wrong_y, respond_of4}
use Rattle.known_points.specs.RecordNumbers.{refusal_of}

-- ** What the points are about

-- what a respond to the empty challenge leaves after a full draw, with these words, a key of this value in every place, and this y
abbrev pub blank_at : (n : ℕ) (words : List ℕ) (value : ℤ) (y : List ℤ) → RespondLeft
blank_at n words value y = respond_left
    (record { degree = n; deviation = 215; drawn = 1 })
    (respond_of [] polynomial words (replicate (2 * n) value) y (replicate (2 * n) (pos 9)) (replicate 48 9))

-- the entries of a blank response with this bit
abbrev pub blank_reads : (bit : ℕ) → List ℕ
blank_reads bit = entry 7 4 ∷ entry 2 0 ∷ entry 2 1 ∷ entry 2 2 ∷ (exponential_reads ++ (exponential_reads ++ (entry 9 bit ∷ [])))

-- what a blank response leaves with this bit, which is this number, and this z: of the list the last entry is as it was
abbrev pub answered : (bit : Bool) (number : ℕ) (z : List ℤ) → RespondLeft
answered bit number z = record {
  responded = record {
    answer = record { refusal = 0; bit = bit; entries = 47 };
    session = record { degree = 4; deviation = 215; drawn = 0 };
  };
  y = zeros;
  z = z;
  list = blank_reads number ++ (9 ∷ []);
}

abbrev pub accepted : (z : List ℤ) → RespondLeft
accepted z = answered true 1 z

abbrev pub rejected : RespondLeft
rejected = answered false 0 zeros

-- a y of both signs
abbrev pub noise : List ℤ
noise = pos 5 ∷ negsuc 2 ∷ pos 0 ∷ pos 2100 ∷ pos 2815 ∷ negsuc 2814 ∷ pos 1 ∷ negsuc 0 ∷ []

-- ** The points

pub record BlankNumbers : Type 0 where
  -- ** Refusals
  -- 47 entries are served, and 46 are refusal 8; by document 01 the empty challenge was refusal 6
  pub served_47 : respond_of4 1 [] zeros zeros 47 ≡ 0
  pub refused_46 : respond_of4 1 [] zeros zeros 46 ≡ 8
  pub refused_before : respond_refusal_before 4 215 1 [] polynomial 3 zeros zeros 8 47 ≡ 6
  -- the key is not used, and yet one of seven values, or with an 8 in it, is refused
  pub key_of_7 : respond_refusal 4 215 1 [] polynomial 3 (replicate 7 (pos 0)) zeros 8 47 ≡ 2
  pub key_with_8 : respond_of4 1 [] (with_zeros (pos 8)) zeros 47 ≡ 10
  -- of several that apply, the first: each respond with what the later ones are refused for, and the last with nothing of it
  pub blanks_in_order :
      respond_refusal 5 215 0 [] [] 2 wrong_key wrong_y 8 46
      ∷ respond_refusal 4 215 0 [] [] 2 wrong_key wrong_y 8 46
      ∷ respond_refusal 4 215 0 [] (replicate 21 0) 2 wrong_key wrong_y 8 46
      ∷ respond_refusal 4 215 0 [] polynomial 2 wrong_key wrong_y 8 46
      ∷ respond_of4 0 [] wrong_key wrong_y 46
      ∷ respond_of4 0 [] wrong_key wrong_y 47
      ∷ respond_of4 1 [] wrong_key wrong_y 47
      ∷ respond_of4 1 [] zeros wrong_y 47
      ∷ respond_of4 1 [] zeros zeros 47
      ∷ []
      ≡ 1 ∷ 2 ∷ 4 ∷ 7 ∷ 8 ∷ 9 ∷ 10 ∷ 11 ∷ 0 ∷ []
  --
  -- ** Responses
  -- z is y, whatever g and the key are, and the list has no entry of kind 8
  pub plus : blank_at 4 (three 0 0 0) (pos 7) noise ≡ accepted noise
  pub minus : blank_at 4 (three 1 0 0) (pos 7) noise ≡ accepted noise
  pub another_key : blank_at 4 (three 1 0 0) (negsuc 6) noise ≡ accepted noise
  pub how_many_entries : length (blank_reads 1) ≡ 47
  pub blank_list : respond_entries 4 true [] ≡ blank_reads 1
  -- word 1 decides at e(46,225), whatever the key is; the largest word 2 passes too, of 62 bits
  pub word_1_below : blank_at 4 (three 0 2797128963144291368 4611686018427387903) (pos 7) noise ≡ accepted noise
  pub word_1_at : blank_at 4 (three 0 2797128963144291369 0) (pos 7) noise ≡ rejected
  -- so does Z: 64 * 1,609 ^ 2 is its limit
  pub largest_z : (blank_at 32 (three 0 0 0) (pos 0) (replicate 64 (pos 1609))).responded.answer.bit ≡ true
  pub larger_z : (blank_at 32 (three 0 0 0) (pos 0) (pos 1610 ∷ replicate 63 (pos 1609))).responded.answer.bit ≡ false
  -- so do the values of z1: -2,101 is too small
  pub coefficient_2101 : blank_at 4 (three 0 0 0) (pos 0) (with_zeros (negsuc 2100)) ≡ rejected
  --
  -- ** Still wanted
  -- the key check wants a length of 1 or more, and the record's challenge a position, written and read
  pub key_check_of_none : key_answer 4 zeros 0 ≡ answer 6 0
  pub written_with_none : refusal_of 4 [] (replicate 4 (pos 0)) (replicate 4 (pos 0)) 15 ≡ 6
  pub read_with_none : field_set_of (1 ∷ 0 ∷ 4 ∷ 0 ∷ []) ≡ none
