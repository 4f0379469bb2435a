-- Requests S-3 and S-4, the record of a signature, in bits and bytes worked out by hand: forms of values and their lengths, records, bytes
-- that are none, and the order of refusals. negsuc k is -(k + 1). Assumes nothing.
use Rattle.std.specs.Prelude.{◌≡◌, Bool, true, false, List, [], ◌∷◌, ◌++◌, ℕ, ℤ, pos, negsuc, length, replicate}
use Rattle.std.proofs.Math.Option.{Option, none, some}
use Rattle.response.specs.Response.{response_bound}
use Rattle.record.specs.Record.{FieldSet, value_limit, value_bits, record_of}
use Rattle.record.specs.Lengths.{packed_lengths, packed_length}
use Rattle.record.specs.Reading.{field_set_of}
use Rattle.record.specs.OneForOne.{longest}
use Rattle.record_writer.specs.declared.Fields.{Fields}
use Rattle.record_writer.specs.Call.{told, answer, after_write, write_left}
use Rattle.record_reader.specs.declared.Contents.{Contents}
use Rattle.record_reader.specs.Call.{after_read, read_left}

abbrev pub field_set : (n : ℕ) (challenge : Option (List ℕ)) (z1 z2 : Option (List ℤ)) → FieldSet
field_set n challenge z1 z2 = record { n = n; challenge = challenge; z1 = z1; z2 = z2 }

abbrev pub tell : (challenge z1 z2 : Bool) → Fields
tell challenge z1 z2 = record { challenge = challenge; z1 = z1; z2 = z2 }

-- four values
abbrev pub zeros : List ℤ
zeros = replicate 4 (pos 0)

abbrev pub ending : (last : ℤ) → List ℤ
ending last = pos 0 ∷ pos 0 ∷ pos 0 ∷ last ∷ []

-- the record of four zeros as z1
abbrev pub zeros_stored : List ℕ
zeros_stored = 2 ∷ 0 ∷ 4 ∷ 0 ∷ 128 ∷ 64 ∷ 32 ∷ 16 ∷ []

-- the refusal of a write that tells all fields
abbrev pub refusal_of : (n : ℕ) (challenge : List ℕ) (z1 z2 : List ℤ) (room : ℕ) → ℕ
refusal_of n challenge z1 z2 room = (write_left (told n (tell true true true) challenge z1 z2) (replicate room 9)).written.refusal

-- and of one that tells z1 alone, of degree 4
abbrev pub refusal_of_z1 : (last : ℤ) → ℕ
refusal_of_z1 last = (write_left (told 4 (tell false true false) [] (ending last) []) (replicate 20 9)).written.refusal

-- a refused read answers 0 but for the refusal
abbrev pub refused_by : (refusal : ℕ) → Contents
refused_by refusal = record { refusal = refusal; map = 0; degree = 0; positions = 0; z1 = 0; z2 = 0 }

-- a signature of degree 4: challenge, z1 and z2
abbrev pub signature : FieldSet
signature =
    field_set 4
    (some (0 ∷ 3 ∷ []))
    (some (pos 1 ∷ negsuc 1 ∷ pos 3 ∷ negsuc 3 ∷ []))
    (some (pos 128 ∷ pos 0 ∷ pos 0 ∷ negsuc 127 ∷ []))

abbrev pub signature_stored : List ℕ
signature_stored = 7 ∷ 0 ∷ 4 ∷ 2 ∷ 0 ∷ 0 ∷ 0 ∷ 3 ∷ 1 ∷ 193 ∷ 64 ∷ 240 ∷ 144 ∷ 4 ∷ 2 ∷ 1 ∷ 128 ∷ 64 ∷ []

pub record RecordNumbers : Type 0 where
  -- ** Values: a sign, seven low bits, zeros and a one
  pub zero_bits : value_bits (pos 0) ≡ replicate 8 false ++ (true ∷ [])
  pub one_bits : value_bits (pos 1) ≡ replicate 7 false ++ (true ∷ true ∷ [])
  pub minus_two_bits : value_bits (negsuc 1) ≡ true ∷ false ∷ false ∷ false ∷ false ∷ false ∷ true ∷ false ∷ true ∷ []
  pub bits_of_127 : value_bits (pos 127) ≡ false ∷ replicate 8 true
  pub bits_of_128 : value_bits (pos 128) ≡ replicate 9 false ++ (true ∷ [])
  pub bits_of_3263 : value_bits (negsuc 3262) ≡ true ∷ false ∷ (replicate 6 true ++ (replicate 25 false ++ (true ∷ [])))
  --
  -- ** Packed lengths, of request S-4: 26, each for 128 sizes but the last, which is for 64
  pub how_many_lengths : length packed_lengths ≡ 26
  pub packed_lengths_lem :
      packed_length 0
      ∷ packed_length 127
      ∷ packed_length 128
      ∷ packed_length 255
      ∷ packed_length 256
      ∷ packed_length 3199
      ∷ packed_length 3200
      ∷ packed_length 3263
      ∷ []
      ≡ 9 ∷ 9 ∷ 10 ∷ 10 ∷ 11 ∷ 33 ∷ 34 ∷ 34 ∷ []
  pub no_length : packed_length 3264 ∷ packed_length 3328 ∷ packed_length 4294967295 ∷ [] ≡ 0 ∷ 0 ∷ 0 ∷ []
  --
  -- ** Records
  -- a map of 0 is a record of three bytes, with the high byte of n first
  pub no_field : record_of (field_set 1024 none none none) ≡ 0 ∷ 4 ∷ 0 ∷ []
  pub degree_4 : record_of (field_set 4 none none none) ≡ 0 ∷ 0 ∷ 4 ∷ []
  pub a_challenge : record_of (field_set 1024 (some (0 ∷ 255 ∷ 256 ∷ 1023 ∷ [])) none none)
      ≡ 1 ∷ 4 ∷ 0 ∷ 4 ∷ 0 ∷ 0 ∷ 0 ∷ 255 ∷ 1 ∷ 0 ∷ 3 ∷ 255 ∷ []
  pub z1_alone : record_of (field_set 4 none (some zeros) none) ≡ zeros_stored
  pub z2_alone : record_of (field_set 4 none none (some (ending (negsuc 0)))) ≡ 4 ∷ 0 ∷ 4 ∷ 0 ∷ 128 ∷ 64 ∷ 48 ∷ 48 ∷ []
  -- z1 and z2 are one sequence: 72 bits are nine bytes, and nothing is padded between
  pub both_halves : record_of (field_set 4 none (some zeros) (some zeros))
      ≡ 6 ∷ 0 ∷ 4 ∷ 0 ∷ 128 ∷ 64 ∷ 32 ∷ 16 ∷ 8 ∷ 4 ∷ 2 ∷ 1 ∷ []
  pub a_signature : record_of signature ≡ signature_stored
  -- pads of three, two, one and no bits
  pub pads :
      record_of (field_set 4 none (some (ending (pos 128))) none)
      ∷ record_of (field_set 4 none (some (ending (pos 256))) none)
      ∷ record_of (field_set 4 none (some (ending (pos 384))) none)
      ∷ record_of (field_set 4 none (some (ending (pos 512))) none)
      ∷ []
      ≡ (2 ∷ 0 ∷ 4 ∷ 0 ∷ 128 ∷ 64 ∷ 32 ∷ 8 ∷ [])
      ∷ (2 ∷ 0 ∷ 4 ∷ 0 ∷ 128 ∷ 64 ∷ 32 ∷ 4 ∷ [])
      ∷ (2 ∷ 0 ∷ 4 ∷ 0 ∷ 128 ∷ 64 ∷ 32 ∷ 2 ∷ [])
      ∷ (2 ∷ 0 ∷ 4 ∷ 0 ∷ 128 ∷ 64 ∷ 32 ∷ 1 ∷ [])
      ∷ []
  -- the largest size, of both signs
  pub largest_values : record_of (field_set 4 none (some (pos 3263 ∷ negsuc 3262 ∷ pos 0 ∷ pos 0 ∷ [])) none)
      ≡ 2 ∷ 0 ∷ 4 ∷ 63 ∷ 0 ∷ 0 ∷ 0 ∷ 111 ∷ 192 ∷ 0 ∷ 0 ∷ 16 ∷ 8 ∷ 4 ∷ []
  --
  -- ** Bytes that are read
  pub read_no_field : field_set_of (0 ∷ 0 ∷ 4 ∷ []) ≡ some (field_set 4 none none none)
  pub read_signature : field_set_of signature_stored ≡ some signature
  pub read_3263 : field_set_of (2 ∷ 0 ∷ 4 ∷ 63 ∷ 0 ∷ 0 ∷ 0 ∷ 64 ∷ 32 ∷ 16 ∷ 8 ∷ [])
      ≡ some (field_set 4 none (some (pos 3263 ∷ pos 0 ∷ pos 0 ∷ pos 0 ∷ [])) none)
  --
  -- ** Bytes that are no record
  pub no_byte : field_set_of [] ≡ none
  pub minus_zero : field_set_of (2 ∷ 0 ∷ 4 ∷ 128 ∷ 128 ∷ 64 ∷ 32 ∷ 16 ∷ []) ≡ none
  -- 25 zeros may stand behind low bits up to 63 alone, and 26 never
  pub size_3264 : field_set_of (2 ∷ 0 ∷ 4 ∷ 64 ∷ 0 ∷ 0 ∷ 0 ∷ 64 ∷ 32 ∷ 16 ∷ 8 ∷ []) ≡ none
  pub zeros_26 : field_set_of (2 ∷ 0 ∷ 4 ∷ 0 ∷ 0 ∷ 0 ∷ 0 ∷ 32 ∷ 16 ∷ 8 ∷ 4 ∷ []) ≡ none
  pub one_in_padding : field_set_of (2 ∷ 0 ∷ 4 ∷ 0 ∷ 128 ∷ 64 ∷ 32 ∷ 17 ∷ []) ≡ none
  pub byte_more : field_set_of (zeros_stored ++ (0 ∷ [])) ≡ none
  pub byte_less : field_set_of (2 ∷ 0 ∷ 4 ∷ 0 ∷ 128 ∷ 64 ∷ 32 ∷ []) ≡ none
  pub other_bits_of_map :
      field_set_of (8 ∷ 0 ∷ 4 ∷ [])
      ∷ field_set_of (16 ∷ 0 ∷ 4 ∷ [])
      ∷ field_set_of (128 ∷ 0 ∷ 4 ∷ [])
      ∷ []
      ≡ none ∷ none ∷ none ∷ []
  pub degree_12 : field_set_of (0 ∷ 0 ∷ 12 ∷ []) ≡ none
  -- 4, with a zero behind the bytes, would be 1,024
  pub half_of_n : field_set_of (0 ∷ 4 ∷ []) ≡ none
  pub no_position : field_set_of (1 ∷ 0 ∷ 4 ∷ 0 ∷ []) ≡ none
  pub five_positions : field_set_of (1 ∷ 0 ∷ 4 ∷ 5 ∷ 0 ∷ 0 ∷ 0 ∷ 1 ∷ 0 ∷ 2 ∷ 0 ∷ 3 ∷ 0 ∷ 4 ∷ []) ≡ none
  pub equal_positions : field_set_of (1 ∷ 0 ∷ 4 ∷ 2 ∷ 0 ∷ 1 ∷ 0 ∷ 1 ∷ []) ≡ none
  pub position_4 : field_set_of (1 ∷ 0 ∷ 4 ∷ 1 ∷ 0 ∷ 4 ∷ []) ≡ none
  -- the high byte of a position counts: 256 is no position of degree 4
  pub position_256 : field_set_of (1 ∷ 0 ∷ 4 ∷ 1 ∷ 1 ∷ 0 ∷ []) ≡ none
  --
  -- ** Whole calls
  -- the record at the start of a longer output, and its length
  pub written : write_left (told 4 (tell false true false) [] zeros []) (replicate 10 9)
      ≡ after_write (answer 0 8) (zeros_stored ++ (9 ∷ 9 ∷ []))
  -- a field that is not told may hold anything, and be of any length
  pub untold : write_left (told 4 (tell false true false) (7 ∷ 7 ∷ []) zeros (pos 5000 ∷ [])) (replicate 8 9)
      ≡ after_write (answer 0 8) zeros_stored
  -- one byte too few, and nothing is written
  pub too_short : write_left (told 4 (tell false true false) [] zeros []) (replicate 7 9) ≡ after_write (answer 14 0) (replicate 7 9)
  -- the limit of values: 3,263 is written, 3,264 is not, nor is the smallest value of 32 bits
  pub limits : refusal_of_z1 (pos 3263) ∷ refusal_of_z1 (pos 3264) ∷ refusal_of_z1 (negsuc 3262) ∷ refusal_of_z1 (negsuc 3263) ∷ []
      ≡ 0 ∷ 15 ∷ 0 ∷ 15 ∷ []
  pub smallest : refusal_of_z1 (negsuc 2147483647) ≡ 15
  -- of several that apply, the first: each call with what the later ones are refused for, and the last with nothing of it
  pub writes_in_order :
      refusal_of 5 (4 ∷ []) (pos 3264 ∷ []) zeros 0
      ∷ refusal_of 4 (4 ∷ []) (pos 3264 ∷ []) zeros 0
      ∷ refusal_of 4 (4 ∷ []) zeros (pos 3264 ∷ []) 0
      ∷ refusal_of 4 (4 ∷ []) zeros (ending (pos 3264)) 0
      ∷ refusal_of 4 [] zeros (ending (pos 3264)) 0
      ∷ refusal_of 4 (3 ∷ []) zeros (ending (pos 3264)) 0
      ∷ refusal_of 4 (3 ∷ []) zeros zeros 14
      ∷ refusal_of 4 (3 ∷ []) zeros zeros 15
      ∷ []
      ≡ 1 ∷ 2 ∷ 2 ∷ 6 ∷ 6 ∷ 15 ∷ 14 ∷ 0 ∷ []
  -- z1 to the start of its output; the others, which are too short for anything, are left
  pub read : read_left zeros_stored [] (replicate 5 (pos 9)) []
      ≡ after_read (record { refusal = 0; map = 2; degree = 4; positions = 0; z1 = 4; z2 = 0 }) [] (zeros ++ (pos 9 ∷ [])) []
  -- 15 before 14; and 14 leaves every output, also those that are long enough
  pub reads_in_order :
      read_left (zeros_stored ++ (0 ∷ [])) (9 ∷ []) (replicate 3 (pos 9)) []
      ∷ read_left signature_stored (9 ∷ 9 ∷ []) (replicate 4 (pos 9)) (replicate 3 (pos 9))
      ∷ []
      ≡ after_read (refused_by 15) (9 ∷ []) (replicate 3 (pos 9)) []
      ∷ after_read (refused_by 14) (9 ∷ 9 ∷ []) (replicate 4 (pos 9)) (replicate 3 (pos 9))
      ∷ []
  --
  -- ** Responses
  -- a response has no larger value, and the longest records of degree 512 with 23 positions and of degree 1,024 with 64 have these bytes
  pub largest_response : response_bound ≡ value_limit
  pub longest_records : longest 512 23 ∷ longest 1024 64 ∷ [] ≡ 4402 ∷ 8836 ∷ []
