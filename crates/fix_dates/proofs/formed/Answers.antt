-- `fix_dates::formed` meets its contract: its tests of pairs and marks are those of the form, place by place (`formed_is`).
use Rattle.fix_dates.proofs.Forms.{formed_is}
use Rattle.fix_dates.proofs.formed.Goals as goal

pub returns : goal.returns
returns c = formed_is c.args.v.now c.requires _ _ _ _ _ _ _ _ _ c.two_digits.ensures c.two_digits-2.ensures c.two_digits-3.ensures c.two_digits-4.ensures c.two_digits-5.ensures c.two_digits-6.ensures c.two_digits-7.ensures c.two_digits-8.ensures c.is_digit.ensures
