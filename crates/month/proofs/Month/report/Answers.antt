-- Each field as the book has it.
use mathlib.Core.Path.{refl}
use Rattle.month.proofs.Fields.{cells_good, quantum_reached}
use Rattle.month.proofs.Calls.{report_done}
use borrow.Author.Rules.{rules}
use Rattle.month.proofs.Month.report.Goals as goal

pub fee-fee-requires : goal.fee-fee-requires
fee-fee-requires c = record { readable = search rules; good = record { cells = c.args.self.cells; is = refl; good = cells_good c.args.self c.requires } }

pub live-orders-requires : goal.live-orders-requires
live-orders-requires c = quantum_reached c.args.self c.requires

pub best_bid-bid-requires : goal.best_bid-bid-requires
best_bid-bid-requires c = quantum_reached c.args.self c.requires

pub best_ask-ask-requires : goal.best_ask-ask-requires
best_ask-ask-requires c = quantum_reached c.args.self c.requires

pub returns : goal.returns
returns c =
    let m = c.args.self in (
      refl,
      report_done m _ _ _ _ _ _ _ _
          (record {
            time_is = c.now-time.ensures;
            kept_is = c.kept_so_far-kept.ensures;
            lapses_are = c.lapses_so_far-lapses.ensures;
            orders_are = c.live-orders.ensures;
            bid_is = c.best_bid-bid.ensures;
            ask_is = c.best_ask-ask.ensures;
          })
          (c.failures-failures.ensures m.cells refl) (c.fee-fee.ensures m.cells refl),
    )
