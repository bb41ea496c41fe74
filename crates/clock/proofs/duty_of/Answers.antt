-- The limit is fixed once.
use borrow.Author.Rules.{rules}
use Rattle.clock.specs.Clocks.{duty_of}
use Rattle.clock.proofs.duty_of.Goals as goal

pub returns : goal.returns
unfolding duty_of
returns c =
    let row = c.args.row in
    λ i. record { length = row.length; minimum = row.minimum; widest = c.widest_of.ensures i }
