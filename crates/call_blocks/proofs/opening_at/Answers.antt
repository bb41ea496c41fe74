-- `call_blocks::opening_at` meets its contract: a price and the word after it.
use Rattle.rules.specs.declared.SpreadRule.TheVariants.{Settled}
use Rattle.call_blocks.proofs.opening_at.Goals as goal

pub returns : goal.returns
returns c = λ i. record { spread = Settled (c.steps_at-sp.ensures i); allowed = c.word-allowed.ensures i }
