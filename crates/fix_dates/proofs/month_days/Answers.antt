-- `fix_dates::month_days` meets its contract: it branches as `month_days` does, into February (`month_february`), the months of 30 days
use mathlib.Core.Path.{sym, ◌∙◌}
use Rattle.fix_dates.proofs.Months.{month_february, month_thirty, month-other}
use Rattle.fix_dates.proofs.month_days.Goals as goal

pub returns-then-m-eq2 : goal.returns-then-m-eq2
returns-then-m-eq2 c = c.february.ensures ∙ month_february c.args.y c.args.m c.if-m-eq2.true

pub returns-then-of_thirty : goal.returns-then-of_thirty
returns-then-of_thirty c = month_thirty c.args.y c.args.m c.if-m-eq2.false (sym c.of_thirty.ensures ∙ c.if-of_thirty.true)

pub returns : goal.returns
returns c = month-other c.args.y c.args.m c.if-m-eq2.false (sym c.of_thirty.ensures ∙ c.if-of_thirty.false)
