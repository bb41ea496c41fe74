-- Both quotes off the table.
use Rattle.quantum_in_place.proofs.Whole.{table_held}
use Rattle.month_in_place.proofs.Asks.{previewed}
use borrow.Author.Rules.{rules}
use Rattle.month_in_place.proofs.preview.Goals as goal

pub best-bid-requires : goal.best-bid-requires
best-bid-requires c = table_held c.args.words.now c.requires.1 c.requires.0

pub best-ask-requires : goal.best-ask-requires
best-ask-requires c = table_held c.args.words.now c.requires.1 c.requires.0

pub returns : goal.returns
returns c =
    previewed c.args.words.now c.args.a c.args.count c.best-bid.result c.best-ask.result c.best-bid.ensures c.best-ask.ensures
