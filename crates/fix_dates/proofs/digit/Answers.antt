-- `fix_dates::digit` meets its contract: a digit's byte is from 48 (`digit_from`) to 57 (`digit_to`).
use native.Mathlib.Omega.{arith}
use Rattle.fix_digits.proofs.Numbers.{digit_from, digit_to}
use Rattle.fix_dates.proofs.digit.Goals as goal

pub overflow_sub-b : goal.overflow_sub-b
overflow_sub-b c = omega (arith, digit_from c.args.b c.requires)

pub returns : goal.returns
returns c = omega (arith, digit_from c.args.b c.requires, digit_to c.args.b c.requires)
