-- What each call of documents 01 and 02 gives and leaves, for every input. Assumes nothing.
use Rattle.std.specs.Prelude.{Bool, false, cond, List, ℕ, ◌*◌, eqb, ℤ, length}
use mir.Val.{bool_byte}
use Rattle.exponential.specs.Exponential.{exp_with, divisor_at, divisor}
use Rattle.sampler.specs.declared.Counts.{Counts}
use Rattle.sampler.specs.Draw.{draw_bits, is_full, Sampled, sampled_by}
use Rattle.challenge_product.specs.Product.{product}
use Rattle.response.specs.declared.Answer.{Answer}
use Rattle.response.specs.Response.{response_z, response_bit, Response, responded_by}
use Rattle.refusals.specs.Refusals.{open_refusal, draw_refusal, respond_refusal}
use Rattle.session.specs.declared.Session.{Session}
use Rattle.session.specs.declared.Opened.{Opened}
use Rattle.session.specs.declared.Drawn.{Drawn}
use Rattle.session.specs.declared.Responded.{Responded}

-- ** Opening

-- a session with nothing drawn
abbrev pub fresh : (degree deviation : ℕ) → Session
fresh degree deviation = record { degree = degree; deviation = deviation; drawn = 0 }

-- a session of the degree n and this deviation where it is served, else of degree 0 and deviation 0; nothing is drawn
unfoldable pub opened : (n deviation : ℕ) → Opened
opened n deviation =
    let refusal = open_refusal n deviation in
    record { refusal = refusal; session = cond (eqb refusal 0) (fresh n deviation) (fresh 0 0) }

-- ** Drawing

-- a draw: its limit, and all that it is lent
pub record Draw : Type 0 where
  pub limit : ℕ
  pub cdt : List ℕ
  pub polynomial : List ℕ
  pub words : List ℕ
  pub y : List ℤ
  pub list : List ℕ

-- the draw with a limit and with what is lent, in the order of the code
abbrev pub draw_of : (limit : ℕ) (cdt polynomial words : List ℕ) (y : List ℤ) (list : List ℕ) → Draw
draw_of limit cdt polynomial words y list = record { limit = limit; cdt = cdt; polynomial = polynomial; words = words; y = y; list = list }

-- what a draw leaves: the answer with the next session, y and the list
pub record DrawLeft : Type 0 where
  pub drawn : Drawn
  pub y : List ℤ
  pub list : List ℕ

-- what is left where a draw hands back a result, with y and the list after it
abbrev pub after_draw : (drawn : Drawn) (y : List ℤ) (list : List ℕ) → DrawLeft
after_draw drawn y list = record { drawn = drawn; y = y; list = list }

-- the first refusal that applies, or 0
unfoldable pub refusal_of_draw : (s : Session) (d : Draw) → ℕ
refusal_of_draw s d =
    draw_refusal s.degree s.deviation d.limit d.cdt d.polynomial (length d.words) (length d.y) (length d.list)

-- the accept bits of its attempts, by e(N) over the lent polynomial table, at the session's deviation
unfoldable pub bits_of_draw : (s : Session) (d : Draw) → List Bool
bits_of_draw s d = draw_bits (exp_with d.polynomial (divisor_at s.deviation)) d.cdt d.words d.limit (2 * s.degree)

-- what a refused draw hands back: its number, with 0 for every count, and the same session
abbrev pub drawn_refused : (refusal : ℕ) (s : Session) → Drawn
drawn_refused refusal s = record { answer = record { refusal = refusal; attempts = 0; accepted = 0; entries = 0 }; session = s }

-- what a served draw hands back: its counts; full sets drawn to 1, and spent to 0
abbrev pub drawn_served : (s : Session) (counts : Counts) → Drawn
drawn_served s counts = record {
  answer = record { refusal = 0; attempts = counts.attempts; accepted = counts.accepted; entries = counts.entries };
  session = record {
    degree = s.degree;
    deviation = s.deviation;
    drawn = bool_byte (is_full (2 * s.degree) counts.accepted);
  };
}

-- what a refused draw leaves: y and the list stay
unfoldable pub draw_refused : (refusal : ℕ) (s : Session) (d : Draw) → DrawLeft
draw_refused refusal s d = record { drawn = drawn_refused refusal s; y = d.y; list = d.list }

-- what a served draw leaves: y and the list are those of the sampling
unfoldable pub draw_served : (s : Session) (sampled : Sampled) → DrawLeft
draw_served s sampled = record { drawn = drawn_served s sampled.counts; y = sampled.y; list = sampled.list }

-- a draw
unfoldable pub draw_left : (s : Session) (d : Draw) → DrawLeft
draw_left s d =
    cond (eqb (refusal_of_draw s d) 0)
    (draw_served s (sampled_by s.degree d.cdt d.words (bits_of_draw s d) d.list))
    (draw_refused (refusal_of_draw s d) s d)

-- ** Responding

-- a respond: its challenge, and all that it is lent
pub record Respond : Type 0 where
  pub challenge : List ℕ
  pub polynomial : List ℕ
  pub words : List ℕ
  pub key : List ℤ
  pub y : List ℤ
  pub z : List ℤ
  pub list : List ℕ

-- the respond to a challenge with what is lent, in the order of the code
abbrev pub respond_of : (challenge polynomial words : List ℕ) (key y z : List ℤ) (list : List ℕ) → Respond
respond_of challenge polynomial words key y z list = record {
  challenge = challenge;
  polynomial = polynomial;
  words = words;
  key = key;
  y = y;
  z = z;
  list = list;
}

-- what a respond leaves: the answer with the next session, y, z and the list
pub record RespondLeft : Type 0 where
  pub responded : Responded
  pub y : List ℤ
  pub z : List ℤ
  pub list : List ℕ

-- what is left where a respond hands back a result, with y, z and the list after it
abbrev pub after_respond : (responded : Responded) (y z : List ℤ) (list : List ℕ) → RespondLeft
after_respond responded y z list = record { responded = responded; y = y; z = z; list = list }

-- the first refusal that applies, or 0
unfoldable pub refusal_of_respond : (s : Session) (r : Respond) → ℕ
refusal_of_respond s r =
    respond_refusal s.degree s.deviation s.drawn r.challenge r.polynomial (length r.words) r.key r.y (length r.z)
    (length r.list)

-- its bit, by e(N) over the lent polynomial table, at deviation 215, the only one that is served
unfoldable pub bit_of_respond : (s : Session) (r : Respond) → Bool
bit_of_respond s r = response_bit (exp_with r.polynomial divisor) s.degree r.y (product r.key s.degree r.challenge) r.words

-- z where its bit is 1
unfoldable pub z_of_respond : (s : Session) (r : Respond) → List ℤ
z_of_respond s r = response_z r.y (product r.key s.degree r.challenge) r.words

-- what a refused respond hands back: its number, with 0 for the bit and the count, and the same session
abbrev pub responded_refused : (refusal : ℕ) (s : Session) → Responded
responded_refused refusal s = record { answer = record { refusal = refusal; bit = false; entries = 0 }; session = s }

-- what a served respond hands back: its bit and its count; nothing is drawn any more
abbrev pub responded_served : (s : Session) (answer : Answer) → Responded
responded_served s answer = record {
  answer = record { refusal = 0; bit = answer.bit; entries = answer.entries };
  session = fresh s.degree s.deviation;
}

-- what a refused respond leaves: y, z and the list stay
unfoldable pub respond_refused : (refusal : ℕ) (s : Session) (r : Respond) → RespondLeft
respond_refused refusal s r = record { responded = responded_refused refusal s; y = r.y; z = r.z; list = r.list }

-- what a served respond leaves: y, z and the list are those of the response
unfoldable pub respond_served : (s : Session) (response : Response) → RespondLeft
respond_served s response = record {
  responded = responded_served s response.answer;
  y = response.y;
  z = response.z;
  list = response.list;
}

-- a respond
unfoldable pub respond_left : (s : Session) (r : Respond) → RespondLeft
respond_left s r =
    cond (eqb (refusal_of_respond s r) 0)
    (respond_served s (responded_by s.degree (bit_of_respond s r) r.challenge (z_of_respond s r) r.list))
    (respond_refused (refusal_of_respond s r) s r)
