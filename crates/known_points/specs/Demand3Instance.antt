-- Demand 3 at degree 4: two lists of calls that are lent different words at places that are not read, two with blank responds and keys that
-- agree nowhere, one with refused calls among them, one with another history, and lists of any number of calls; two lists at deviation 107,
-- and two that differ in nothing but their deviations. Assumes nothing.
use Rattle.std.specs.Prelude.{◌≡◌, Bool, true, false, List, [], ◌∷◌, ◌++◌, ℕ, zero, suc, ◌^◌, ◌<◌, ℤ, pos, negsuc, take, replicate, get_or}
use Rattle.exponential.specs.Exponential.{polynomial}
use Rattle.known_points.specs.EvenThresholds.{even_thresholds}
use Rattle.sampler.specs.Draw.{draw_entries}
use Rattle.response.specs.Response.{respond_entries}
use Rattle.session.specs.declared.Session.{Session}
use Rattle.session.specs.Calls.{opened, Draw, Respond}
use Rattle.histories.specs.Histories.{Call, draw, respond, Linked, read_list, Event, drew, answered, history}
use Rattle.histories.specs.Demand3.{NoneRefused, Seen, sampled, answer, seen}
use Rattle.histories.specs.PremiseLaws.{Premises}

-- ** What is lent

-- the words of so many attempts that are accepted with this sample, the next, and so on: d is 0, the low bits are the sample, the sign is
-- 0, and u is 0
unfoldable pub words_of : (sample count : ℕ) → List ℕ
words_of sample zero = []
words_of sample (suc count) = 0 ∷ 0 ∷ sample ∷ 0 ∷ words_of (suc sample) count

-- the samples of such attempts
unfoldable pub one_to_eight : List ℤ
one_to_eight = pos 1 ∷ pos 2 ∷ pos 3 ∷ pos 4 ∷ pos 5 ∷ pos 6 ∷ pos 7 ∷ pos 8 ∷ []

-- ** The calls

-- a draw within 16 attempts
unfoldable pub draw_over : (words : List ℕ) (y : List ℤ) (list : List ℕ) → Draw
draw_over words y list = record { limit = 16; cdt = even_thresholds; polynomial = polynomial; words = words; y = y; list = list }

-- eight attempts, all accepted, and 32 words behind them that are not read
unfoldable pub drawing : (unread : ℕ) (before : ℤ) (filler : ℕ) → Draw
drawing unread before filler = draw_over (words_of 1 8 ++ replicate 32 unread) (replicate 8 before) (replicate 738 filler)

-- nine attempts: the first, of size 0 and sign 1, is not accepted
unfoldable pub rejecting : Draw
rejecting = draw_over (0 ∷ 0 ∷ 256 ∷ 0 ∷ (words_of 1 8 ++ replicate 28 0)) (replicate 8 (pos 0)) (replicate 738 0)

-- a respond to the challenge 0, 2, over the samples of such a draw, with a word behind the third that is not read
unfoldable pub responding : (unread : ℕ) (before : ℤ) (filler : ℕ) → Respond
responding unread before filler = record {
  challenge = 0 ∷ 2 ∷ [];
  polynomial = polynomial;
  words = 0 ∷ 0 ∷ 0 ∷ unread ∷ [];
  key = pos 1 ∷ pos 0 ∷ negsuc 0 ∷ pos 2 ∷ pos 3 ∷ negsuc 1 ∷ pos 0 ∷ pos 1 ∷ [];
  y = one_to_eight;
  z = replicate 8 before;
  list = replicate 63 filler;
}

-- a draw, then a respond, with these words that are not read, this y and this z before them, and these lists
unfoldable pub calls_over : (unread : ℕ) (before : ℤ) (filler : ℕ) → List Call
calls_over unread before filler = draw (drawing unread before filler) ∷ respond (responding unread before filler) ∷ []

abbrev pub calls : List Call
calls = calls_over 0 (pos 0) 0

abbrev pub calls' : List Call
calls' = calls_over 7 (pos 1) 9

-- a blank respond over such samples, with a key of this value in every place
unfoldable pub blank_with : (value : ℤ) → Respond
blank_with value = record {
  challenge = [];
  polynomial = polynomial;
  words = 0 ∷ 0 ∷ 0 ∷ [];
  key = replicate 8 value;
  y = one_to_eight;
  z = replicate 8 (pos 0);
  list = replicate 47 0;
}

-- a draw, then such a respond
unfoldable pub calls_blank : (value : ℤ) → List Call
calls_blank value = draw (drawing 0 (pos 0) 0) ∷ respond (blank_with value) ∷ []

-- the first list with such a draw instead
unfoldable pub calls_rejecting : List Call
calls_rejecting = draw rejecting ∷ respond (responding 0 (pos 0) 0) ∷ []

-- a respond over a y of one value, its own, which is refused
unfoldable pub refused_respond : Respond
refused_respond = record { challenge = 0 ∷ 2 ∷ []; polynomial = polynomial; words = []; key = []; y = pos 3 ∷ []; z = []; list = [] }

-- a draw over that y, which is refused too
unfoldable pub refused_draw : Draw
refused_draw = draw_over [] (pos 3 ∷ []) []

-- the first list with both between its calls
unfoldable pub calls_refused : List Call
calls_refused = draw (drawing 0 (pos 0) 0) ∷ draw refused_draw ∷ respond refused_respond ∷ respond (responding 0 (pos 0) 0) ∷ []

-- a draw alone, with these words that are not read, this y before it, and this list
unfoldable pub calls_drawing : (unread : ℕ) (before : ℤ) (filler : ℕ) → List Call
calls_drawing unread before filler = draw (drawing unread before filler) ∷ []

-- a draw whose first attempt, with N = 513, has a u between e(N) at 107 and at 271
unfoldable pub between : Draw
between = draw_over (2 ^ 40 ∷ 0 ∷ 1 ∷ 4550000000000000000 ∷ (words_of 1 8 ++ replicate 28 0)) (replicate 8 (pos 0)) (replicate 738 0)

unfoldable pub calls_between : List Call
calls_between = draw between ∷ []

-- so many times a draw and a respond, over the zeros that a respond leaves
unfoldable pub rounds : (unread filler count : ℕ) → List Call
rounds unread filler zero = []
rounds unread filler (suc count) = calls_over unread (pos 0) filler ++ rounds unread filler count

-- the session of degree 4 and this deviation, just opened
abbrev pub start_at : (deviation : ℕ) → Session
start_at deviation = (opened 4 deviation).session

abbrev pub start : Session
start = start_at 215

-- the history of a full draw with these bits, and of an accepted response
abbrev pub drawn_and_answered : (bits : List Bool) → List Event
drawn_and_answered bits = drew 4 bits ∷ answered 4 true (0 ∷ 2 ∷ []) ∷ []

-- what the caller sees of the draw: full after eight attempts, and y
abbrev pub drawn_one_to_eight_at : (deviation : ℕ) → Seen
drawn_one_to_eight_at deviation = sampled
    (record {
      answer = record { refusal = 0; attempts = 8; accepted = 8; entries = 370 };
      session = record { degree = 4; deviation = deviation; drawn = 1 };
    })
    one_to_eight

abbrev pub drawn_one_to_eight : Seen
drawn_one_to_eight = drawn_one_to_eight_at 215

-- of a draw over a drawn y that is refused by 2: y is drawn still
abbrev pub draw_refused_by2 : Seen
draw_refused_by2 = sampled
    (record {
      answer = record { refusal = 2; attempts = 0; accepted = 0; entries = 0 };
      session = record { degree = 4; deviation = 215; drawn = 1 };
    })
    (pos 3 ∷ [])

-- of a respond that is
abbrev pub respond_refused_by2 : Seen
respond_refused_by2 = answer
    (record { answer = record { refusal = 2; bit = false; entries = 0 }; session = record { degree = 4; deviation = 215; drawn = 1 } })
    (pos 3 ∷ []) []

-- and of a respond with so many entries: its bit is 1, y is all zero, and z
abbrev pub answered_by : (entries : ℕ) (z : List ℤ) → Seen
answered_by entries z = answer
    (record {
      answer = record { refusal = 0; bit = true; entries = entries };
      session = record { degree = 4; deviation = 215; drawn = 0 };
    })
    (replicate 8 (pos 0)) z

-- ** What demand 3 says of them

-- two lists of calls from these sessions meet all that the second half asks for but for what it asks of the sessions, from a y of eight
-- times this value and a y' of eight times that
abbrev pub MeetFrom : (s s' : Session) (before before' : ℤ) (calls calls' : List Call) → Type 0
MeetFrom s s' before before' calls calls' = Premises s s' (replicate 8 before) (replicate 8 before') calls calls'

abbrev pub Meet : (before before' : ℤ) (calls calls' : List Call) → Type 0
Meet = MeetFrom start start

pub record Demand3Instance : Type 0 where
  -- the first two lists meet all that the second half asks for
  pub premises : Meet (pos 0) (pos 1) calls calls'
  -- and yet the words that the two draws are lent differ
  pub words_differ : (drawing 0 (pos 0) 0).words ≡ (drawing 7 (pos 1) 9).words → ⊥
  -- what the second half gives
  pub seen_same : seen start calls ≡ seen start calls'
  pub reads_same : read_list start calls ≡ read_list start calls'
  -- what both give: 1 to 8, in this order; then z, all of y + Sc, Sc being 2, -2, 0, 2 and 3, -3, 3, -1
  pub seen_is : seen start calls
      ≡ drawn_one_to_eight ∷ answered_by 63 (pos 3 ∷ pos 0 ∷ pos 3 ∷ pos 6 ∷ pos 8 ∷ pos 3 ∷ pos 10 ∷ pos 7 ∷ []) ∷ []
  pub reads_are : read_list start calls ≡ draw_entries 4 (replicate 8 true) ++ respond_entries 4 true (0 ∷ 2 ∷ [])
  -- the history of both
  pub history_is : history start calls ≡ drawn_and_answered (replicate 8 true)
  pub history_is' : history start calls' ≡ drawn_and_answered (replicate 8 true)
  -- blank responds read no place of their keys: 7 everywhere and -7 everywhere meet it, and give the same, z being y
  pub premises_blank : Meet (pos 0) (pos 0) (calls_blank (pos 7)) (calls_blank (negsuc 6))
  pub keys_agree_nowhere : (i : ℕ) → i < 8
      → get_or (blank_with (pos 7)).key i (pos 0) ≡ get_or (blank_with (negsuc 6)).key i (pos 0) → ⊥
  pub seen_same_blank : seen start (calls_blank (pos 7)) ≡ seen start (calls_blank (negsuc 6))
  pub reads_same_blank : read_list start (calls_blank (pos 7)) ≡ read_list start (calls_blank (negsuc 6))
  pub seen_is_blank : seen start (calls_blank (pos 7)) ≡ drawn_one_to_eight ∷ answered_by 47 one_to_eight ∷ []
  pub history_is_blank : history start (calls_blank (pos 7)) ≡ drew 4 (replicate 8 true) ∷ answered 4 true [] ∷ []
  -- refused calls may lend any y, and add nothing: the same history, and so by the first half the same read list
  pub seen_refused : take 3 (seen start calls_refused) ≡ drawn_one_to_eight ∷ draw_refused_by2 ∷ respond_refused_by2 ∷ []
  pub linked_refused : Linked start (replicate 8 (pos 0)) calls_refused
  pub history_is_refused : history start calls_refused ≡ drawn_and_answered (replicate 8 true)
  pub reads_same_refused : read_list start calls_refused ≡ read_list start calls
  -- with another history, and so by the first half another read list
  pub linked_rejecting : Linked start (replicate 8 (pos 0)) calls_rejecting
  pub none_refused_rejecting : NoneRefused start calls_rejecting
  pub history_is_rejecting : history start calls_rejecting ≡ drawn_and_answered (false ∷ replicate 8 true)
  pub reads_differ : read_list start calls ≡ read_list start calls_rejecting → ⊥
  -- so do lists of any number of calls
  pub any_number : (count : ℕ) → Meet (pos 0) (pos 0) (rounds 0 0 count) (rounds 7 9 count)
  -- at deviation 107 two draws that are lent different words at places that are not read meet it, and give the same
  pub premises_107 : MeetFrom (start_at 107) (start_at 107) (pos 0) (pos 1) (calls_drawing 0 (pos 0) 0) (calls_drawing 7 (pos 1) 9)
  pub seen_same_107 : seen (start_at 107) (calls_drawing 0 (pos 0) 0) ≡ seen (start_at 107) (calls_drawing 7 (pos 1) 9)
  pub seen_is_107 : seen (start_at 107) (calls_drawing 0 (pos 0) 0) ≡ drawn_one_to_eight_at 107 ∷ []
  -- a history does not hold the deviation: at 107 and at 271 the draw has the same bits, and so by the first half the same read list
  pub history_same : history (start_at 107) (calls_drawing 0 (pos 0) 0) ≡ history (start_at 271) (calls_drawing 0 (pos 0) 0)
  pub reads_same_over : read_list (start_at 107) (calls_drawing 0 (pos 0) 0) ≡ read_list (start_at 271) (calls_drawing 0 (pos 0) 0)
  -- equal deviations are asked for: one and the same draw at 107 and at 271 meets all else, and its first attempt is accepted at 271 alone
  pub premises_between : MeetFrom (start_at 107) (start_at 271) (pos 0) (pos 0) calls_between calls_between
  pub history_at_107 : history (start_at 107) calls_between ≡ drew 4 (false ∷ replicate 8 true) ∷ []
  pub history_at_271 : history (start_at 271) calls_between ≡ drew 4 (replicate 8 true) ∷ []
  pub reads_differ_between : read_list (start_at 107) calls_between ≡ read_list (start_at 271) calls_between → ⊥
