-- `fix_dates::before_year` meets its contract: the closed form is the days counted year by year (`counted`, `most_days`).
use Prim.Native.Nat.{◌-◌}
use mathlib.Core.Path.{sym}
use native.Mathlib.Omega.{arith}
use Rattle.fix_dates.proofs.Years.{counted, most_days}
use Rattle.fix_dates.proofs.before_year.Goals as goal

pub returns : goal.returns
returns c = (sym (counted (c.args.y - 1)), most_days (c.args.y - 1) (omega (arith, c.requires)))
