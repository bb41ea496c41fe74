-- No ids, then the twelve words (`laid`).
use Rattle.order_arrivals.proofs.Notes.{laid}
use borrow.Author.Rules.{rules}
use Rattle.order_arrivals.proofs.opened.Goals as goal

pub returns : goal.returns
returns c =
    laid c.args.row c.args.spread _ c.copy_from_slice.new.self c.spread_words-five.ensures c.copy_from_slice.ensures.after
