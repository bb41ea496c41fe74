-- The next buy or the next sell, and the order there is the live one.
use native.Mathlib.Omega.{arith}
use mathlib.Core.Path.{◌∙◌}
use Rattle.month_view.proofs.Named.{long, sized, stands_there, order_there, buys_few, buy_there, sell_there}
use borrow.Author.Rules.{rules}
use Rattle.month_view.proofs.order_next.Goals as goal

pub slice_bounds-buy_has-end : goal.slice_bounds-buy_has-end
slice_bounds-buy_has-end c =
    omega (arith, long c.args.table.now c.args.id c.requires.placed)

pub buy_has-requires : goal.buy_has-requires
buy_has-requires c =
    ((sized c.args.table.now c.args.id c.requires.placed 0 (omega arith)).all, buys_few c.args.table.now c.args.id c.args.buys c.args.sells c.requires)

pub slice_bounds-order_at-end : goal.slice_bounds-order_at-end
slice_bounds-order_at-end c =
    omega (arith, long c.args.table.now c.args.id c.requires.placed)

pub order_at-requires : goal.order_at-requires
order_at-requires c =
    stands_there c.args.table.now c.args.id c.requires.placed 0 c.args.buys (omega arith) (buy_there c.args.table.now c.args.id c.args.buys c.args.sells c.requires c.buy_has.result c.buy_has.ensures c.if-buy_has.true)

pub returns-then-buy_has : goal.returns-then-buy_has
returns-then-buy_has c p =
    c.order_at.ensures ∙ order_there c.args.table.now c.args.id p.placed 0 c.args.buys (omega arith) (buy_there c.args.table.now c.args.id c.args.buys c.args.sells p c.buy_has.result c.buy_has.ensures c.if-buy_has.true)

pub slice_bounds-order_at-end-2 : goal.slice_bounds-order_at-end-2
slice_bounds-order_at-end-2 c =
    omega (arith, long c.args.table.now c.args.id c.requires.placed)

pub order_at-requires-2 : goal.order_at-requires-2
order_at-requires-2 c =
    stands_there c.args.table.now c.args.id c.requires.placed 1 c.args.sells (omega arith) (sell_there c.args.table.now c.args.id c.args.buys c.args.sells c.requires c.buy_has.result c.buy_has.ensures c.if-buy_has.false)

pub returns : goal.returns
returns c p =
    c.order_at-2.ensures ∙ order_there c.args.table.now c.args.id p.placed 1 c.args.sells (omega arith) (sell_there c.args.table.now c.args.id c.args.buys c.args.sells p c.buy_has.result c.buy_has.ensures c.if-buy_has.false)
