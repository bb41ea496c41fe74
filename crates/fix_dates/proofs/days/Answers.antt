-- `fix_dates::days` meets its contract: it is `days_before`'s own sum, small in the ranges of a date (`date_ranges`).
use Prim.Native.Nat.{◌+◌, ◌-◌}
use native.Mathlib.Omega.{arith}
use Rattle.rules.specs.Dates.{days_before}
use Rattle.fix_dates.proofs.Ranges.{date_ranges}
use Rattle.fix_dates.proofs.days.Goals as goal

pub before_year-requires : goal.before_year-requires
before_year-requires c = ((date_ranges c.args.s c.requires.date).year, c.requires.years)

pub before_month-requires : goal.before_month-requires
before_month-requires c = ((date_ranges c.args.s c.requires.date).month, (date_ranges c.args.s c.requires.date).months)

pub overflow_sub-result : goal.overflow_sub-result
overflow_sub-result c = (date_ranges c.args.s c.requires.date).day

pub overflow_add-result-2 : goal.overflow_add-result-2
overflow_add-result-2 c = omega (arith, (date_ranges c.args.s c.requires.date).days)

pub returns : goal.returns
unfolding days_before
returns c = ((λ i. c.before_year.ensures.0 i + c.before_month.ensures.0 i + (c.args.s.day - 1)), omega (arith, (date_ranges c.args.s c.requires.date).days))
