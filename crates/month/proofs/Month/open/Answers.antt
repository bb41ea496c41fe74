-- 1 and 2 while the row is read, the other causes after it.
use mathlib.Core.Path.{ap, sym, ◌∙◌}
use Rattle.rules.specs.Answers.{shown_row}
use Rattle.rules.specs.Calls.{Open}
use Rattle.month.proofs.Answers.{handed}
use Rattle.month.proofs.Calls.{ReadAs, read_as, open_unread}
use borrow.Author.Rules.{rules}
use Rattle.month.proofs.Month.open.Goals as goal

pub open_row-requires : goal.open_row-requires
open_row-requires c =
    let was_read : ReadAs c.args.opening.spread c.args.words.now c.in-Ok.row = read_as _ _ _ (ap shown_row (sym c.in-Ok.is) ∙ c.read-read.ensures) in
    (c.requires, (was_read).good)

pub returns-in-Ok : goal.returns-in-Ok
returns-in-Ok c =
    let was_read : ReadAs c.args.opening.spread c.args.words.now c.in-Ok.row = read_as _ _ _ (ap shown_row (sym c.in-Ok.is) ∙ c.read-read.ensures) in
    let r = was_read in
    c.open_row.ensures c.args.words.now r.seven r.is

pub returns-in-Err : goal.returns-in-Err
returns-in-Err c =
    let a = c.args in
    handed a.self (Open a.words.now a.day a.opening) c.refused.result a.self _ c.refused.ensures
    (open_unread a.self a.words.now a.day a.opening _ (ap shown_row (sym c.in-Err.is) ∙ c.read-read.ensures))
