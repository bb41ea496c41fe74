-- `call_blocks::strike_opening_at` meets its contract: a strike and the word after it.
use Rattle.rules.specs.declared.SpreadRule.TheVariants.{OfStrike}
use Rattle.call_blocks.proofs.strike_opening_at.Goals as goal

pub returns : goal.returns
returns c = λ i. record { spread = OfStrike (c.strike_at-strike.ensures i); allowed = c.word-allowed.ensures i }
