-- The three shares.
use Rattle.std.proofs.Common.{rules}
use mathlib.Core.Bool.{or-false}
use Rattle.lists.specs.Lists.{any}
use Rattle.weights.specs.Card.{on_card}
use Rattle.weights.proofs.has.Goals as goal

pub returns : goal.returns
unfolding on_card any
returns c = search (rules, or-false)
