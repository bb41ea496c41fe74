-- Off the table.
use Rattle.rules.specs.Orders.{live}
use Rattle.events.proofs.Represents.{good_orders}
use Rattle.quantum_in_place.proofs.Whole.{table_held}
use Rattle.messages_in_place.proofs.Refusals.{table_of_lem}
use borrow.Author.Rules.{rules}
use Rattle.messages_in_place.proofs.has_order.Goals as goal

pub has-requires : goal.has-requires
has-requires c =
    table_held c.args.words.now c.requires.1 c.requires.0

pub returns : goal.returns
returns c row sp es g e =
    c.has.ensures row.minimum.0 (live es) (good_orders row es g) (table_of_lem c.args.words.now row sp es g e)
