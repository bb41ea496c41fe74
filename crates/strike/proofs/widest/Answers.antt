-- The nearest step is the product rounded.
use Rattle.strike.proofs.Rounding.{widest_is}
use Rattle.strike.proofs.widest.Goals as goal

pub returns : goal.returns
returns c =
    let near = c.nearest in
    let square = c.square in
    widest_is c.args.s square.result near.result c.max.result square.ensures.0
    near.ensures.0 near.ensures.1 c.max.ensures
