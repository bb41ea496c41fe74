-- `fix_dates::two_digits` meets its contract: it is the contract's own test, since `is_digit` promises `is_digit` of each byte.
use mathlib.Core.Bool.{◌&&◌}
use Rattle.fix_dates.proofs.two_digits.Goals as goal

pub returns : goal.returns
returns c = λ i. c.is_digit.ensures i && c.is_digit-2.ensures i
