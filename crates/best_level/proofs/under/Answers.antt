-- Keys are below the least number that reads as a negative one.
use borrow.Author.Rules.{rules}
use Rattle.best_level.proofs.Nexts.{signed_less}
use Rattle.best_level.proofs.under.Goals as goal

pub returns : goal.returns
returns c = signed_less c.args.a c.args.b c.requires.0 c.requires.1
