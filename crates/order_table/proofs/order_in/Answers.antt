-- What the side's words have at the place is the live order (`its_order`).
use mathlib.Core.Path.{◌∙◌}
use borrow.Author.Rules.{rules}
use Rattle.order_table.proofs.Orders.{stands, its_order}
use Rattle.order_table.proofs.order_in.Goals as goal

pub order_at-requires : goal.order_at-requires
order_at-requires c =
    let l = c.requires.0 in
    stands l.minimum l.live c.args.table.now l.represents l.id c.args.slot l.at c.requires.1

pub returns : goal.returns
returns c = λ id minimum live represents at.
    c.order_at.ensures
    ∙ its_order minimum live c.args.table.now represents id c.args.slot at c.requires.1 c.side_at.result c.side_at.ensures
