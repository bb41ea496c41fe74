-- An open that is given a strike.
use borrow.Author.Rules.{rules}
use Rattle.month.proofs.Month.open_strike.Goals as goal

pub returns : goal.returns
returns c = c.open.ensures
