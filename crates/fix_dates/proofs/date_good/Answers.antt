-- `fix_dates::date_good` meets its contract: it is `good_date`'s own test, with the month's days that `month_days` promises.
use Prim.Native.Nat.{ℕ}
use mathlib.Core.Path.{ap}
use mathlib.Core.Bool.{◌&&◌}
use lib.Dec.{leb}
use Rattle.rules.specs.Dates.{good_date}
use Rattle.fix_dates.proofs.date_good.Goals as goal

pub returns : goal.returns
unfolding good_date
returns c = ap (λ (d : ℕ). leb 1 c.args.s.year && (leb 1 c.args.s.month && leb c.args.s.month 12) && (leb 1 c.args.s.day && leb c.args.s.day d)) c.month_days.ensures
