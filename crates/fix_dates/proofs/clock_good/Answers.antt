-- `fix_dates::clock_good` meets its contract: it is `good_clock`'s own test.
use mathlib.Core.Path.{refl}
use Rattle.rules.specs.Dates.{good_clock}
use Rattle.fix_dates.proofs.clock_good.Goals as goal

pub returns : goal.returns
unfolding good_clock
returns c = refl
