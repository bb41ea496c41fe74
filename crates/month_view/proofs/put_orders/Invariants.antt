-- The loop's invariant: the orders before i are done, and so many of them are buys.
use Rattle.std.specs.Prelude.{if◌then◌else◌}
use Prim.Native.Nat.{◌+◌, ◌*◌, ◌-◌, ◌≤◌}
use native.Mathlib.Omega.{arith}
use mathlib.Core.Path.{◌≡◌, refl, sym, ap, ◌∙◌}
use mathlib.Core.List.{◌++◌}
use lib.ListN.{length, get_or, take, drop, length-drop}
use lib.Seq.{length-take-le}
use Rattle.lists.specs.Lists.{filter}
use Rattle.rules.specs.declared.Order.{Order}
use Rattle.rules.specs.declared.Side.TheVariants.{Buy}
use Rattle.rules.specs.Quotes.{same}
use Rattle.order_table.specs.Table.{of_side}
use Rattle.order_table.specs.Internal.{blank_order}
use Rattle.month_view.specs.Views.{order_words, orders_words}
use Rattle.month_view.specs.Internal.{Listed}
use Rattle.month_view.proofs.Orders.{as_many, next_in, orders_on, orders_long, orders_all, at_most_one, buys_more}
use borrow.Author.Rules.{rules}
use Rattle.month_view.proofs.put_orders.Given as goal

abbrev pub invariant-loop-i : goal.invariant-loop-i
invariant-loop-i l =
    (l.i ≤ length l.ids) × (length l.into ≡ 4 * length l.ids) × ((k : Listed l.table l.ids) → l.into ≡ orders_words (take l.i k.live) ++ drop (4 * l.i) l.initial.into)
    × (l.buys ≤ l.i) × ((k : Listed l.table l.ids) → l.buys ≡ length (of_side Buy (take l.i k.live)))
