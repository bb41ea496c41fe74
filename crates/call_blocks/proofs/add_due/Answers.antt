-- `call_blocks::add_due` meets its contract, side by side.
use mathlib.Core.Path.{sym, ap}
use Rattle.call_blocks.specs.Kinds.{add_due}
use Rattle.call_blocks.proofs.Sizes.{other_side_lem}
use Rattle.call_blocks.proofs.add_due.Goals as goal

pub returns-in-1 : goal.returns-in-1
unfolding add_due
returns-in-1 c = ap add_due (sym c.in-1.is)

pub returns-in-2 : goal.returns-in-2
unfolding add_due
returns-in-2 c = ap add_due (sym c.in-2.is)

pub returns-in_default : goal.returns-in_default
returns-in_default c = other_side_lem _ c.in_default.in_default-own.rest.0.1 c.in_default.in_default-own.rest.1
