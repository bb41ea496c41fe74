-- The row used in place of none is a good one.
use mathlib.Core.Path.{refl}
use Rattle.rules.specs.Rows.{good_row, good_row_for}
use borrow.Author.Rules.{rules}
use Rattle.quantum.proofs.Quantum.idle.Goals as goal

pub opened-requires : goal.opened-requires
unfolding good_row good_row_for
opened-requires c = (refl, refl)
