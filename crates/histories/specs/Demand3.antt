-- Demand 3: a read list tells the history and no more, and leaves out no place that an answer depends on. Assumes nothing.
use Rattle.std.specs.Prelude.{◌≡◌, ◌↔◌, List, [], ◌∷◌, ℕ, ℤ}
use Rattle.read_list.specs.Agreement.{Lent, Agree}
use Rattle.session.specs.declared.Session.{Session}
use Rattle.session.specs.declared.Drawn.{Drawn}
use Rattle.session.specs.declared.Responded.{Responded}
use Rattle.session.specs.Calls.{opened}
use Rattle.histories.specs.Histories.{Call, draw, respond, Left, drawn, responded, left_by, refusal_in, next_in, entries_in}
use Rattle.histories.specs.Histories.{Linked, read_list, history}

-- ** What the second half asks of two lists of calls

-- no call is refused
unfoldable pub NoneRefused : (s : Session) (calls : List Call) → Type 0
NoneRefused s [] = Unit {0}
NoneRefused s (c ∷ calls) = (refusal_in (left_by s c) ≡ 0) × NoneRefused (next_in (left_by s c)) calls

-- two calls are of one kind, with the same limit or challenge
abbrev pub Alike : Call → Call → Type 0
Alike (draw d) (draw d') = d.limit ≡ d'.limit
Alike (draw d) (respond r) = ⊥
Alike (respond r) (draw d) = ⊥
Alike (respond r) (respond r') = r.challenge ≡ r'.challenge

-- the calls are alike, one by one
unfoldable pub AllAlike : List Call → List Call → Type 0
AllAlike [] [] = Unit {0}
AllAlike [] (b ∷ calls) = ⊥
AllAlike (a ∷ calls) [] = ⊥
AllAlike (a ∷ calls) (b ∷ calls') = Alike a b × AllAlike calls calls'

-- what a call is lent that its list names
abbrev pub lent : Call → Lent
lent (draw d) = record { words = d.words; cdt = d.cdt; polynomial = d.polynomial; key = [] }
lent (respond r) = record { words = r.words; cdt = []; polynomial = r.polynomial; key = r.key }

-- call by call, both are lent the same at every place on the first one's read list
unfoldable pub Agreeing : (s : Session) (calls calls' : List Call) → Type 0
Agreeing s [] calls' = Unit {0}
Agreeing s (a ∷ calls) [] = Unit {0}
Agreeing s (a ∷ calls) (b ∷ calls') =
    Agree (lent a) (lent b) (entries_in (left_by s a)) × Agreeing (next_in (left_by s a)) calls calls'

-- ** What the caller sees of a call

-- its answer with the next session, y after it (the samples) and, of a respond, z after it (the response)
pub data Seen : Type 0 where
  sampled : Drawn → (y : List ℤ) → Seen
  answer : Responded → (y z : List ℤ) → Seen

abbrev pub seen_in : Left → Seen
seen_in (drawn l) = sampled l.drawn l.y
seen_in (responded l) = answer l.responded l.y l.z

unfoldable pub seen : (s : Session) (calls : List Call) → List Seen
seen s [] = []
seen s (c ∷ calls) = seen_in (left_by s c) ∷ seen (next_in (left_by s c)) calls

-- ** Demand 3

-- For any two openings, any y at the start of either, and any two lists of calls from them:
-- the read lists are equal exactly when the histories are; and where the degrees are equal and so are the deviations, no call is refused,
-- the calls are alike one by one, and both are lent the same at every place on the first one's read list, every call of the one gives and
-- leaves what its counterpart in the other does, and the read lists are equal.
abbrev pub Demand3 : Type 0
Demand3 =
    (n deviation n' deviation' : ℕ) (y y' : List ℤ) (calls calls' : List Call) →
    let s = (opened n deviation).session in let s' = (opened n' deviation').session in
    Linked s y calls → Linked s' y' calls' →
    ((read_list s calls ≡ read_list s' calls') ↔ (history s calls ≡ history s' calls'))
    × (s.degree ≡ s'.degree → s.deviation ≡ s'.deviation → NoneRefused s calls → NoneRefused s' calls' →
    AllAlike calls calls' → Agreeing s calls calls' →
    (seen s calls ≡ seen s' calls') × (read_list s calls ≡ read_list s' calls'))
