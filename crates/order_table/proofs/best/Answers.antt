-- The key in the words of a side is that of its best quote (Quotes).
use native.Mathlib.Omega.{arith}
use mathlib.Core.Path.{◌∙◌}
use borrow.Author.Rules.{rules}
use Rattle.order_table.proofs.Table.{held-length, held-represents}
use Rattle.order_table.proofs.Quotes.{word_most, word-quote}
use Rattle.order_table.proofs.best.Goals as goal

pub bounds-table-s : goal.bounds-table-s
bounds-table-s c =
    omega (arith, held-length c.args.table.now c.requires, c.side_number-s.ensures.small)

pub quote_at-requires : goal.quote_at-requires
quote_at-requires c =
    word_most _ _ _ (held-represents c.args.table.now c.requires) c.side_number-s.result c.side_number-s.ensures.small

pub returns : goal.returns
returns c minimum live good is =
    c.quote_at.ensures
    ∙ word-quote c.args.table.now minimum live (record { good = good; is = is }) c.side_number-s.result c.side_number-s.ensures.small
    c.args.side c.side_number-s.ensures.is
