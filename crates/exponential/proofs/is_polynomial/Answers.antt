-- `exponential::is_polynomial` meets its contract: words are compared one by one, and the constant table is the polynomial table. Assumes
-- nothing.
use mathlib.Core.Path.{◌≡◌, refl, ap, ◌∙◌}
use mathlib.Core.Bool.{◌&&◌}
use mathlib.Core.List.{List, [], ◌∷◌}
use Prim.Native.Nat.{ℕ}
use lib.Dec.{eqb}
use lib.Pointwise.{pointwise}
use Rattle.exponential.specs.Exponential.{factorial, entries_from, polynomial, same_words, is_polynomial}
use Rattle.exponential.proofs.Table.{not_polynomial}
use Rattle.exponential.proofs.Steps.{table_length}
use Rattle.exponential.proofs.is_polynomial.Goals as goal

compared : (table words : List ℕ) → pointwise eqb table words ≡ same_words table words
unfolding same_words
compared [] [] = refl
compared [] (b ∷ bs) = refl
compared (a ∷ as') [] = refl
compared (a ∷ as') (b ∷ bs) = ap (λ (rest : _). eqb a b && rest) (compared as' bs)

pub returns-in-Ok : goal.returns-in-Ok
unfolding is_polynomial polynomial entries_from factorial
returns-in-Ok c =
    let is = c.in-Ok.ensures.1.same in
    c.eq.ensures ∙ compared c.in-Ok.words.now polynomial ∙ ap (λ (t : List ℕ). same_words t polynomial) is

pub returns-in-Err : goal.returns-in-Err
returns-in-Err c = not_polynomial c.args.table.now (λ e. c.in-Err.ensures.1 (table_length c.args.table.now e))
