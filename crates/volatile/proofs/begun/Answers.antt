-- By the test of the sigma.
use Rattle.volatile.proofs.Steps.{none_begun, one_begun}
use Rattle.volatile.proofs.begun.Goals as goal

pub returns-then-sigma-threshold : goal.returns-then-sigma-threshold
returns-then-sigma-threshold c = let a = c.args in none_begun a.day a.sigma a.threshold a.sum c.if-sigma-threshold.true

pub returns : goal.returns
returns c = let a = c.args in one_begun a.day a.sigma a.threshold a.sum c.if-sigma-threshold.false
