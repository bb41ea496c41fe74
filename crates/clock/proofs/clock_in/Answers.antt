-- Each field is a word.
use Rattle.clock.proofs.Words.{clock_back}
use borrow.Author.Rules.{rules}
use Rattle.clock.proofs.clock_in.Goals as goal

pub returns : goal.returns
returns c = λ k e. clock_back c.args.words.now k e
