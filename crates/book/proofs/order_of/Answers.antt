-- The side by the kind.
use mathlib.Core.Path.{ap}
use borrow.Author.Rules.{rules}
use Rattle.rules.specs.declared.Side.{Side}
use Rattle.rules.specs.declared.Order.{Order}
use Rattle.record.specs.declared.Fields.{Fields}
use Rattle.book.proofs.order_of.Goals as goal

-- The side by the kind.
-- the order by its side
abbrev sided : Fields → Side → Order
sided f side = record { id = f.id; side = side; price = f.price; volume = f.volume }

pub returns : goal.returns
returns c = ap (sided c.args.f) c.to_side.ensures
