-- `fix_dates::instant` meets its contract: it is `instant_of`'s own sum of the days and of the day's milliseconds.
use Rattle.std.proofs.Common.{arith}
use Rattle.std.proofs.lemmas.Grind.{common_steps}
use Rattle.rules.specs.Dates.{instant_of}
use Rattle.fix_dates.proofs.instant.Goals as goal

pub returns : goal.returns
unfolding instant_of
returns c = grind (arith, common_steps)
