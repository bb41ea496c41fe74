-- `fix_dates::february` meets its contract: 29 where the year is a leap year (`leap_by`), 28 where it is not (`common_by`).
use mathlib.Core.Path.{sym, ◌∙◌}
use Rattle.fix_dates.proofs.Months.{leap_by, common_by}
use Rattle.fix_dates.proofs.february.Goals as goal

pub returns-then-leap : goal.returns-then-leap
returns-then-leap c = leap_by c.args.y 0 29 28 (sym c.leap.ensures ∙ c.if-leap.true)

pub returns : goal.returns
returns c = common_by c.args.y 0 29 28 (sym c.leap.ensures ∙ c.if-leap.false)
