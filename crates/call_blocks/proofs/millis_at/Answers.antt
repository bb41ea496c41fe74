-- `call_blocks::millis_at` meets its contract: the word at its place.
use mathlib.Core.Path.{ap}
use Rattle.rules.specs.Units.{millis}
use Rattle.call_blocks.proofs.millis_at.Goals as goal

pub returns : goal.returns
returns c = ap millis c.word.ensures
