-- `fix_dates::moment_of` meets its contract: it compares the two instants, as the definition `moment_of` does.
use Rattle.std.proofs.Common.{◌∙◌}
use Rattle.rules.specs.Dates.{moment_of, moment_between}
use Rattle.fix_dates.proofs.moment_of.Goals as goal

pub returns : goal.returns
unfolding moment_of
returns c = c.between.ensures ∙ (λ i. moment_between (c.instant.ensures i) (c.instant-2.ensures i))
