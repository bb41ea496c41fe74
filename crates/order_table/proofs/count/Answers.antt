-- Each side's word has its number of orders, and both together are the live ones (`all_count`).
use native.Mathlib.Omega.{arith}
use borrow.Author.Rules.{rules}
use Rattle.order_table.proofs.Table.{all_count, held-length, held_count}
use Rattle.order_table.proofs.count.Goals as goal

pub bounds-table-192 : goal.bounds-table-192
bounds-table-192 c = omega (arith, held-length c.args.table.now c.requires)

pub bounds-table : goal.bounds-table
bounds-table c = omega (arith, held-length c.args.table.now c.requires)

pub overflow_add-result-2 : goal.overflow_add-result-2
overflow_add-result-2 c = record { fits = omega (arith, held_count c.args.table.now c.requires, c.requires.good.few) }

pub returns : goal.returns
returns c minimum live good is = all_count c.args.table.now minimum live (record { good = good; is = is })
