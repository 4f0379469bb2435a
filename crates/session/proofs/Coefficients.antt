-- Request S-2, as the caller sees it. Assumes nothing.
use Rattle.session.specs.Coefficients.{CoefficientsInRange, SecondHalfUntested}
use Rattle.session.specs.Calls.{respond_left}
use Rattle.session.proofs.ByRule.{served_respond_by_rule}

pub coefficients_in_range : CoefficientsInRange
coefficients_in_range s r h e =
    let made = served_respond_by_rule s r h in
    ((made.bit (respond_left s r).z (made.z e)).0 e).coefficients

pub second_half_untested : SecondHalfUntested
second_half_untested s r h z p four within =
    ((served_respond_by_rule s r h).bit z p).1 (record { four = four; coefficients = within })
