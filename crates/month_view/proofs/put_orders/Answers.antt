-- The loop's invariant: the orders before i are done, and so many of them are buys.
use Rattle.std.specs.Prelude.{if◌then◌else◌}
use Prim.Native.Nat.{◌+◌, ◌*◌, ◌-◌, ◌≤◌}
use native.Mathlib.Omega.{arith}
use mathlib.Core.Path.{◌≡◌, refl, sym, ap, ◌∙◌}
use mathlib.Core.List.{◌++◌}
use lib.ListN.{length, get_or, take, drop, length-drop}
use lib.Seq.{length-take-le}
use Rattle.lists.specs.Lists.{filter}
use Rattle.rules.specs.declared.Order.{Order}
use Rattle.rules.specs.declared.Side.TheVariants.{Buy}
use Rattle.rules.specs.Quotes.{same}
use Rattle.order_table.specs.Table.{of_side}
use Rattle.order_table.specs.Internal.{blank_order}
use Rattle.month_view.specs.Views.{order_words, orders_words}
use Rattle.month_view.specs.Internal.{Listed}
use Rattle.month_view.proofs.Orders.{as_many, next_in, orders_on, orders_long, orders_all, at_most_one, buys_more}
use borrow.Author.Rules.{rules}
use Rattle.month_view.proofs.put_orders.Goals as goal

pub loop-i-init : goal.loop-i-init
unfolding orders_words filter
loop-i-init c = (search rules, c.requires.1, λ l. refl, omega arith, λ l. refl)

pub overflow_sub-i : goal.overflow_sub-i
overflow_sub-i c = omega (arith, c.loop-i.invariant.3)

pub order_next-order-requires : goal.order_next-order-requires
order_next-order-requires c =
    next_in c.args.table.now c.args.ids.now c.requires.0 c.loop-i.i c.loop-i.buys c.loop-i-test.true (c.loop-i.invariant.4 c.requires.0)

pub overflow_mul-from : goal.overflow_mul-from
overflow_mul-from c =
    record { fits = omega (arith, c.loop-i-test.true, as_many c.args.table.now c.args.ids.now c.requires.0, c.requires.0.good.few) }

pub overflow_add-to : goal.overflow_add-to
overflow_add-to c =
    record { fits = omega (arith, c.loop-i-test.true, as_many c.args.table.now c.args.ids.now c.requires.0, c.requires.0.good.few) }

pub slice_bounds-put_order-end : goal.slice_bounds-put_order-end
slice_bounds-put_order-end c = omega (arith, c.loop-i-test.true, c.loop-i.invariant.1)

pub put_order-requires : goal.put_order-requires
put_order-requires c =
    let four : 4 * c.loop-i.i + 4 - 4 * c.loop-i.i ≡ 4 = omega arith in
    length-take-le (4 * c.loop-i.i + 4 - 4 * c.loop-i.i) (drop (4 * c.loop-i.i) c.loop-i.into) (omega (arith, c.loop-i-test.true, c.loop-i.invariant.1, length-drop (4 * c.loop-i.i) c.loop-i.into)) ∙ four

pub overflow_add-buys : goal.overflow_add-buys
overflow_add-buys c =
    record {
      fits =
          omega
          (arith, c.loop-i.invariant.3, c.loop-i-test.true, as_many c.args.table.now c.args.ids.now c.requires.0, c.requires.0.good.few, c.buys_of-buys.ensures, at_most_one (same Buy c.order_next-order.result.side));
    }

pub loop-i-preserved : goal.loop-i-preserved
loop-i-preserved c =
    let table = c.args.table.now in
    let ids = c.args.ids.now in
    let taken = c.loop-i-test.true in
    let found : (a : Listed table ids) → c.order_next-order.result ≡ get_or a.live c.loop-i.i blank_order = λ a. c.order_next-order.ensures (next_in table ids a c.loop-i.i c.loop-i.buys taken (c.loop-i.invariant.4 a)) in
    let next : (a : Listed table ids) → take (4 * c.loop-i.i) c.loop-i.into ++ (c.put_order.new.into ++ drop (4 * c.loop-i.i + 4 - 4 * c.loop-i.i) (drop (4 * c.loop-i.i) c.loop-i.into))
    ≡ orders_words (take (c.loop-i.i + 1) a.live) ++ drop (4 * (c.loop-i.i + 1)) c.args.into.now = λ a.
    orders_on a.live c.loop-i.into c.args.into.now c.put_order.new.into c.loop-i.i (4 * c.loop-i.i + 4 - 4 * c.loop-i.i) blank_order (omega (arith, taken, as_many table ids a)) (omega arith)
    (c.put_order.ensures ∙ ap order_words (found a)) (c.loop-i.invariant.2 a) in (
      omega (arith, taken),
      orders_long c.requires.0.live _ c.args.into.now (c.loop-i.i + 1) (omega (arith, taken, as_many table ids c.requires.0)) (omega (arith, c.requires.1, as_many table ids c.requires.0)) (next c.requires.0) ∙ c.requires.1,
      next,
      omega (arith, c.loop-i.invariant.3, c.buys_of-buys.ensures, at_most_one (same Buy c.order_next-order.result.side)),
      λ a.
          (λ j. c.loop-i.invariant.4 a j + (c.buys_of-buys.ensures ∙ ap (λ (o : Order). if same Buy o.side then 1 else 0) (found a)) j)
          ∙ sym (buys_more a.live c.loop-i.i (omega (arith, taken, as_many table ids a))),
    )

pub returns : goal.returns
returns c =
    λ a.
    let many = as_many c.args.table.now c.args.ids.now a in
    orders_all a.live c.loop-i.into c.args.into.now c.loop-i.i (omega (arith, many, c.loop-i.invariant.0)) (omega (arith, many, c.requires.1)) (c.loop-i.invariant.2 a)
