-- The view, and its number.
use mathlib.Core.Path.{sym, ap, ◌∙◌}
use Rattle.c_month.specs.Internal.{viewed_number}
use Rattle.c_month.proofs.Views.{month_viewed}
use borrow.Author.Rules.{rules}
use Rattle.c_month.proofs.view.Goals as goal

pub returns-in-Ok : goal.returns-in-Ok
returns-in-Ok c =
    let a = c.args in
    month_viewed a.words.now a.buffer.now c.view.new.buffer c.view.result c.in-Ok.n c.view.ensures (ap viewed_number (sym c.in-Ok.is))

pub returns-in-Err : goal.returns-in-Err
returns-in-Err c =
    let a = c.args in
    month_viewed a.words.now a.buffer.now c.view.new.buffer c.view.result c.view_error_number.result c.view.ensures
    (c.view_error_number.ensures ∙ ap viewed_number (sym c.in-Err.is))
