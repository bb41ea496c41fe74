-- Each field as the book has it.
use native.Mathlib.Omega.{arith}
use mathlib.Core.Path.{◌≡◌}
use lib.ListN.{length, take, drop, length-drop}
use lib.Seq.{length-take-le}
use Rattle.order_table.specs.Table.{Held}
use Rattle.quantum_in_place.proofs.Whole.{table_held}
use Rattle.month_in_place.proofs.Months.{holds_quantum}
use Rattle.quanta_in_place.proofs.Shown.{report_shown, holds_cells}
use borrow.Author.Rules.{rules}
use Rattle.quanta_in_place.proofs.report.Goals as goal

pub count-orders-requires : goal.count-orders-requires
count-orders-requires c =
    let held : Held (take 512 (drop 10 (take 598 (drop 6 c.args.words.now)))) = let ws = c.args.words.now in
    table_held (take 598 (drop 6 ws)) (length-take-le 598 (drop 6 ws) (omega (arith, length-drop 6 ws, c.requires.1))) (holds_quantum ws c.requires.0) in
    held

pub best-bid-requires : goal.best-bid-requires
best-bid-requires c =
    let held : Held (take 512 (drop 10 (take 598 (drop 6 c.args.words.now)))) = let ws = c.args.words.now in
    table_held (take 598 (drop 6 ws)) (length-take-le 598 (drop 6 ws) (omega (arith, length-drop 6 ws, c.requires.1))) (holds_quantum ws c.requires.0) in
    held

pub best-ask-requires : goal.best-ask-requires
best-ask-requires c =
    let held : Held (take 512 (drop 10 (take 598 (drop 6 c.args.words.now)))) = let ws = c.args.words.now in
    table_held (take 598 (drop 6 ws)) (length-take-le 598 (drop 6 ws) (omega (arith, length-drop 6 ws, c.requires.1))) (holds_quantum ws c.requires.0) in
    held

pub failures-failures-requires : goal.failures-failures-requires
failures-failures-requires c =
    let cells_size : length (take 1860 (drop 604 c.args.words.now)) ≡ 1860 = length-take-le 1860 (drop 604 c.args.words.now) (omega (arith, length-drop 604 c.args.words.now, c.requires.1)) in
    cells_size

pub fee-fee-requires : goal.fee-fee-requires
fee-fee-requires c =
    let cells_size : length (take 1860 (drop 604 c.args.words.now)) ≡ 1860 = length-take-le 1860 (drop 604 c.args.words.now) (omega (arith, length-drop 604 c.args.words.now, c.requires.1)) in
    (holds_cells c.args.words.now c.requires.0, cells_size)

pub returns : goal.returns
returns c =
    report_shown c.args.words.now c.clock_in-clock.result c.clock_in-clock.ensures c.count-orders.result c.best-bid.result c.best-ask.result c.count-orders.ensures c.best-bid.ensures c.best-ask.ensures
    c.is_set-running.result c.is_set-running.ensures c.failures-failures.result c.fee-fee.result c.failures-failures.ensures c.fee-fee.ensures
