-- No quantum, 186 blank cells.
use mathlib.Core.Path.{ap}
use lib.ListN.{replicate}
use Rattle.month.proofs.Fields.{fresh_is}
use borrow.Author.Rules.{rules}
use Rattle.month.proofs.Month.fresh.Goals as goal

pub returns : goal.returns
returns c = fresh_is _ _ c.idle-quantum.ensures (ap (replicate 186) c.blank_cell-blank.ensures)
