-- `pay::view` meets its contract: its verdict and weight are `view_of`'s, as `met` and `weight` promise.
use Rattle.rules.specs.Pay.{view_of}
use Rattle.verdict.proofs.view.Goals as goal

pub returns : goal.returns
unfolding view_of
returns c = simp (c.met-met.ensures, c.weight-weight.ensures)
