-- No limit, or the count is at most the limit.
use borrow.Author.Tests.{eq-eqb, ne_eqb}
use Rattle.rules.specs.Lapses.{within_lapse_limit}
use Rattle.verdict.proofs.within_lapse_limit.Goals as goal

pub returns-then-allowed-eq65535 : goal.returns-then-allowed-eq65535
unfolding within_lapse_limit
returns-then-allowed-eq65535 c = simp (eq-eqb c.args.allowed 65535 c.if-allowed-eq65535.true)

pub returns : goal.returns
unfolding within_lapse_limit
returns c = simp (ne_eqb c.args.allowed 65535 c.if-allowed-eq65535.false)
