-- The CDT tables for the four deviations that hosts lend, with their words as they are written there. Assumes nothing.
use Rattle.std.specs.Prelude.{◌≡◌, Bool, true, ◌&&◌, List, [], ◌∷◌, ℕ, suc, ◌+◌, ◌-◌, ◌*◌, ◌^◌, leb}
use Rattle.checks.specs.Checks.{all_below}
use Rattle.exponential.specs.Exponential.{polynomial}
use Rattle.deviations.specs.Deviations.{exp_at}
use Rattle.base_sample.specs.BaseSample.{threshold, base_sample}
use Rattle.refusals.specs.Refusals.{draw_refusal}

-- the high words of ten thresholds, and then their low words
unfoldable pub cdt107 : List ℕ
cdt107 =
    4362334117998305760 ∷ 4611639484469154925 ∷ 4611686018399019608 ∷ 4611686018427387903 ∷ 4611686018427387903
    ∷ 4611686018427387903 ∷ 4611686018427387903 ∷ 4611686018427387903 ∷ 4611686018427387903 ∷ 4611686018427387903
    ∷ 4459253979531052748 ∷ 341877689026041016 ∷ 3482958706539764376 ∷ 4351201523473180849 ∷ 4611686018425693971
    ∷ 4611686018427387903 ∷ 4611686018427387903 ∷ 4611686018427387903 ∷ 4611686018427387903 ∷ 4611686018427387903
    ∷ []

unfoldable pub cdt215 : List ℕ
cdt215 =
    2970318119077987601 ∷ 4432293587828485953 ∷ 4606615286148199816 ∷ 4611650721831976652 ∷ 4611685958667561403
    ∷ 4611686018402853103 ∷ 4611686018427385463 ∷ 4611686018427387903 ∷ 4611686018427387903 ∷ 4611686018427387903
    ∷ 139537425007862173 ∷ 2218333992557025118 ∷ 2870311867292663647 ∷ 3044458817194566665 ∷ 456626370962175178
    ∷ 3423392530604428891 ∷ 918063073876867824 ∷ 4340391528176902920 ∷ 4611684434372927295 ∷ 4611686018425147250
    ∷ []

unfoldable pub cdt250 : List ℕ
cdt250 =
    2675085605605972179 ∷ 4258673959350441631 ∷ 4587189669578005161 ∷ 4611072138238256055 ∷ 4611680569498353447
    ∷ 4611686001414427737 ∷ 4611686018408748558 ∷ 4611686018427380744 ∷ 4611686018427387903 ∷ 4611686018427387903
    ∷ 957117754528701170 ∷ 724612935823953863 ∷ 997982647608990581 ∷ 4224445832033440418 ∷ 3977757405515990552
    ∷ 4054080003283946421 ∷ 3140065669762998680 ∷ 1636595794121743658 ∷ 166482033584069584 ∷ 4611476289235807308
    ∷ []

unfoldable pub cdt271 : List ℕ
cdt271 =
    2524529751101998032 ∷ 4140399764830615248 ∷ 4564124880824976219 ∷ 4609646096313030979 ∷ 4611649624005570070
    ∷ 4611685750739980131 ∷ 4611686017618684231 ∷ 4611686018426385920 ∷ 4611686018427387395 ∷ 4611686018427387903
    ∷ 3204779551084325017 ∷ 3319086818929260536 ∷ 470140555163569302 ∷ 1285599737452868265 ∷ 4139614732298831022
    ∷ 173583279901606865 ∷ 3301493546787991521 ∷ 2850465363819686751 ∷ 792812352446800470 ∷ 4123446333076847937
    ∷ []

-- the draws that give base sample x, where x is 1 to 9
abbrev pub draws_of : (cdt : List ℕ) (x : ℕ) → ℕ
draws_of cdt x = threshold cdt x - threshold cdt (x - 1)

-- the draws that give base sample 0
abbrev pub draws_of0 : (cdt : List ℕ) → ℕ
draws_of0 cdt = threshold cdt 0

-- whether base sample x comes exp(-65536 * x ^ 2 / (2 * deviation ^ 2)) times as often as base sample 0, by e: but for 960 units, its
-- bound, and one more for the rounding of thresholds
unfoldable pub by_its_weight : (deviation : ℕ) (cdt : List ℕ) (x : ℕ) → Bool
by_its_weight deviation cdt x =
    leb (draws_of cdt x * 2 ^ 62) (draws_of0 cdt * (exp_at deviation (65536 * x ^ 2) + 961))
    && leb (draws_of0 cdt * exp_at deviation (65536 * x ^ 2)) (draws_of cdt x * 2 ^ 62 + draws_of0 cdt * 961)

-- a table for a deviation
pub record DefaultCdt (deviation : ℕ) (cdt : List ℕ) (last : ℕ) : Type 0 where
  -- refusal 3 lets it through
  pub served : draw_refusal 4 deviation 8 cdt polynomial 32 8 370 ≡ 0
  -- base samples 1 to the last whose N is in the range of e come as often as they should
  pub weights : all_below (λ (i : ℕ). by_its_weight deviation cdt (suc i)) last ≡ true
  -- and those above it, whose weights are too small for e, by as few draws as that allows
  pub above : leb ((2 ^ 124 - threshold cdt last) * 2 ^ 62) (draws_of0 cdt * 961) ≡ true

pub record DefaultCdts : Type 0 where
  pub at_107 : DefaultCdt 107 cdt107 4
  pub at_215 : DefaultCdt 215 cdt215 9
  pub at_250 : DefaultCdt 250 cdt250 9
  pub at_271 : DefaultCdt 271 cdt271 9
  -- at 107 the last five thresholds would be 2 ^ 124, which no table can hold: the largest draw gives 10, and the next 5
  pub largest_at_107 : base_sample cdt107 (2 ^ 124 - 1) ≡ 10
  pub next_at_107 : base_sample cdt107 (2 ^ 124 - 2) ≡ 5
