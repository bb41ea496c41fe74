-- `call_blocks::charge_at` meets its contract: the number at its place.
use mathlib.Core.Path.{ap}
use Rattle.rules.specs.Units.{kopecks}
use Rattle.call_blocks.proofs.charge_at.Goals as goal

pub returns : goal.returns
returns c = ap kopecks c.wide_at.ensures
