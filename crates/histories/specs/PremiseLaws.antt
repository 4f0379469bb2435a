-- What demand 3's second half asks of two lists of calls is no more than document 01 says: two calls more that are served, alike and lent
-- the same at every place on the first one's list meet it, at any degree and any deviation. Assumes nothing.
use Rattle.std.specs.Prelude.{◌≡◌, ℕ, ◌/◌, ◌%◌, ◌^◌, ℤ, pos, get_or, take}
use mathlib.Core.List.{List, [], ◌∷◌, Memᴰ}
use Rattle.session.specs.declared.Session.{Session}
use Rattle.session.specs.Calls.{Draw, draw_left, Respond, respond_left}
use Rattle.histories.specs.Histories.{Call, draw, respond, Linked}
use Rattle.histories.specs.Demand3.{NoneRefused, AllAlike, Agreeing}

-- all that it asks for, but for equal degrees and equal deviations
pub record Premises (s s' : Session) (y y' : List ℤ) (calls calls' : List Call) : Type 0 where
  pub linked : Linked s y calls
  pub linked' : Linked s' y' calls'
  pub none_refused : NoneRefused s calls
  pub none_refused' : NoneRefused s' calls'
  pub alike : AllAlike calls calls'
  pub agreeing : Agreeing s calls calls'

-- no calls meet it
abbrev pub NoCallsMeet : Type 0
NoCallsMeet = (s s' : Session) (y y' : List ℤ) → Premises s s' y y' [] []

-- ** Two draws

-- they are lent the same at the place that an entry names
pub record SameDraws (d d' : Draw) (e : ℕ) : Type 0 where
  pub words : e / 2 ^ 24 ≡ 2 → get_or d.words (e % 2 ^ 24) 0 ≡ get_or d'.words (e % 2 ^ 24) 0
  pub cdt : e / 2 ^ 24 ≡ 3 → get_or d.cdt (e % 2 ^ 24) 0 ≡ get_or d'.cdt (e % 2 ^ 24) 0
  pub polynomial : e / 2 ^ 24 ≡ 4 → get_or d.polynomial (e % 2 ^ 24) 0 ≡ get_or d'.polynomial (e % 2 ^ 24) 0

abbrev pub DrawsMeet : Type 0
DrawsMeet =
    (s s' : Session) (d d' : Draw) (calls calls' : List Call) → let left = draw_left s d in let left' = draw_left s' d' in
    left.drawn.answer.refusal ≡ 0 → left'.drawn.answer.refusal ≡ 0 → d.limit ≡ d'.limit
    → ((e : ℕ) → Memᴰ e (take left.drawn.answer.entries left.list) → SameDraws d d' e)
    → Premises left.drawn.session left'.drawn.session left.y left'.y calls calls'
    → Premises s s' d.y d'.y (draw d ∷ calls) (draw d' ∷ calls')

-- ** Two responds

pub record SameResponds (r r' : Respond) (e : ℕ) : Type 0 where
  pub words : e / 2 ^ 24 ≡ 2 → get_or r.words (e % 2 ^ 24) 0 ≡ get_or r'.words (e % 2 ^ 24) 0
  pub polynomial : e / 2 ^ 24 ≡ 4 → get_or r.polynomial (e % 2 ^ 24) 0 ≡ get_or r'.polynomial (e % 2 ^ 24) 0
  pub key : e / 2 ^ 24 ≡ 8 → get_or r.key (e % 2 ^ 24) (pos 0) ≡ get_or r'.key (e % 2 ^ 24) (pos 0)

abbrev pub RespondsMeet : Type 0
RespondsMeet =
    (s s' : Session) (r r' : Respond) (calls calls' : List Call) →
    let left = respond_left s r in let left' = respond_left s' r' in
    left.responded.answer.refusal ≡ 0 → left'.responded.answer.refusal ≡ 0 → r.challenge ≡ r'.challenge
    → ((e : ℕ) → Memᴰ e (take left.responded.answer.entries left.list) → SameResponds r r' e)
    → Premises left.responded.session left'.responded.session left.y left'.y calls calls'
    → Premises s s' r.y r'.y (respond r ∷ calls) (respond r' ∷ calls')
