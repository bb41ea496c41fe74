-- The tests of `good_row`, in its order.
use Rattle.rules.specs.Rows.{good_row}
use Rattle.row.proofs.is_good.Goals as goal

pub returns : goal.returns
unfolding good_row
returns c = cc
