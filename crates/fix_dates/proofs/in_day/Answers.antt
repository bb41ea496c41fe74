-- `fix_dates::in_day` meets its contract: it is `clock_of`'s own sum, within a day by the clock's ranges (`clock_ranges`).
use mathlib.Core.Path.{refl}
use native.Mathlib.Omega.{arith}
use Rattle.fix_dates.proofs.Ranges.{clock_ranges}
use Rattle.fix_dates.proofs.in_day.Goals as goal

pub overflow_mul-result : goal.overflow_mul-result
overflow_mul-result c = omega (arith, clock_ranges c.args.s c.requires.clock, c.requires.thousandths)

pub overflow_add-result : goal.overflow_add-result
overflow_add-result c = omega (arith, clock_ranges c.args.s c.requires.clock, c.requires.thousandths)

pub overflow_mul-result-2 : goal.overflow_mul-result-2
overflow_mul-result-2 c = omega (arith, clock_ranges c.args.s c.requires.clock, c.requires.thousandths)

pub overflow_add-result-2 : goal.overflow_add-result-2
overflow_add-result-2 c = omega (arith, clock_ranges c.args.s c.requires.clock, c.requires.thousandths)

pub overflow_mul-result-3 : goal.overflow_mul-result-3
overflow_mul-result-3 c = omega (arith, clock_ranges c.args.s c.requires.clock, c.requires.thousandths)

pub overflow_add-result-3 : goal.overflow_add-result-3
overflow_add-result-3 c = omega (arith, clock_ranges c.args.s c.requires.clock, c.requires.thousandths)

pub returns : goal.returns
returns c = (refl, omega (arith, clock_ranges c.args.s c.requires.clock, c.requires.thousandths))
