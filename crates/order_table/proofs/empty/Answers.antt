-- `book::empty` meets its contract: both sides of no orders are blanks.
use mathlib.Core.Path.{refl}
use Rattle.lists.specs.Lists.{filter}
use Rattle.best_quote.specs.Levels.{held, level_at, greatest, best_key, level_of}
use Rattle.order_side.specs.Slots.{column, side_of, kept_in}
use Rattle.order_table.specs.Table.{table_of}
use Rattle.order_table.proofs.empty.Goals as goal

pub returns : goal.returns
unfolding table_of side_of column kept_in level_of level_at best_key greatest filter held
returns c minimum = refl
