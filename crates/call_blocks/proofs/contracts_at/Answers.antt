-- `call_blocks::contracts_at` meets its contract: the word at its place.
use mathlib.Core.Path.{ap}
use Rattle.rules.specs.Units.{contracts}
use Rattle.call_blocks.proofs.contracts_at.Goals as goal

pub returns : goal.returns
returns c = ap contracts c.word.ensures
