-- Word by word.
use lib.IntN.{pos}
use Rattle.rules.specs.Units.{millis, steps, contracts}
use borrow.Author.Rules.{rules}
use Rattle.month_words.proofs.tick_in.Goals as goal

pub returns : goal.returns
returns c = λ i. record { kind = 6; t = millis (c.word.ensures i); id = 0; price = steps (pos 0); volume = contracts 0 }
