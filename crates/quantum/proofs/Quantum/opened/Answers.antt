-- No events: the duty of the row, a clock at 0, no orders.
use Rattle.quantum.proofs.Answers.{opened_is}
use borrow.Author.Rules.{rules}
use Rattle.quantum.proofs.Quantum.opened.Goals as goal

pub returns : goal.returns
returns c =
    opened_is c.args.row c.args.spread c.duty_of-duty.result c.started-clock.result c.empty-table.result c.opened-notes.result
    c.duty_of-duty.ensures (c.started-clock.ensures c.args.row c.args.spread) (c.empty-table.ensures c.args.row.minimum.0) c.opened-notes.ensures
