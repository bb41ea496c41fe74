-- The numbers of both sides' orders, read off the table that represents them.
use Rattle.rules.specs.Orders.{live as liveOrders}
use Rattle.events.proofs.Represents.{good_orders}
use Rattle.quantum.proofs.Answers.{represents-all, held_in}
use borrow.Author.Rules.{rules}
use Rattle.quantum.proofs.Quantum.live.Goals as goal

pub count-requires : goal.count-requires
count-requires c =
    held_in c.args.self c.requires

pub returns : goal.returns
returns c = λ row sp es g is.
    let q = c.args.self in
    c.count.ensures row.minimum.0 (liveOrders es) (good_orders row es g) (represents-all row sp es q is g).table_is
