-- 1 and 2 while the row is read, the other causes after it.
use mathlib.Core.Path.{ap, sym, ◌∙◌}
use Rattle.rules.specs.Answers.{shown_row}
use Rattle.month.proofs.Calls.{ReadAs, read_as}
use Rattle.quanta_in_place.proofs.Openings.{open_unread_words}
use borrow.Author.Rules.{rules}
use Rattle.quanta_in_place.proofs.open.Goals as goal

pub open_row-requires : goal.open_row-requires
open_row-requires c =
    let was_read : ReadAs c.args.opening.spread c.args.row.now c.in-Ok.good = read_as _ _ _ (ap shown_row (sym c.in-Ok.is) ∙ c.read-read.ensures) in
    (c.requires.0, c.requires.1, (was_read).good)

pub returns-in-Ok : goal.returns-in-Ok
returns-in-Ok c =
    let was_read : ReadAs c.args.opening.spread c.args.row.now c.in-Ok.good = read_as _ _ _ (ap shown_row (sym c.in-Ok.is) ∙ c.read-read.ensures) in
    let r = was_read in c.open_row.ensures c.args.row.now r.seven r.is

pub returns-in-Err : goal.returns-in-Err
returns-in-Err c =
    let a = c.args in
    open_unread_words a.words.now a.row.now a.day a.opening c.from.result _ c.from.ensures (ap shown_row (sym c.in-Err.is) ∙ c.read-read.ensures)
