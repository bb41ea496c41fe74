-- Word by word.
use Rattle.rules.specs.Units.{millis, contracts}
use borrow.Author.Rules.{rules}
use Rattle.month_words.proofs.amend_in.Goals as goal

pub returns : goal.returns
returns c = λ i. record { kind = 3; t = millis (c.word.ensures i); id = c.word-2.ensures i; price = c.steps.ensures i; volume = contracts (c.word-3.ensures i) }
