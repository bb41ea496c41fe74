-- `fix_dates::leap` meets its contract: it is `is_leap`'s own test.
use mathlib.Core.Path.{refl}
use Rattle.rules.specs.Dates.{is_leap}
use Rattle.fix_dates.proofs.leap.Goals as goal

pub returns : goal.returns
unfolding is_leap
returns c = refl
