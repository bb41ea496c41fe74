-- Each field is a word.
use Rattle.clock.proofs.Words.{duty_back}
use borrow.Author.Rules.{rules}
use Rattle.clock.proofs.duty_in.Goals as goal

pub returns : goal.returns
returns c = λ d e. duty_back c.args.words.now d e
