-- The three tests in their order, which a month's words pass (`month_passes`).
use mathlib.Core.Path.{sym, ◌∙◌}
use borrow.Author.Rules.{rules}
use borrow.Author.Tests.{le-leb, lt-leb}
use Rattle.month_in_place.proofs.Entry.{entered, by_orders, by_place, by_length}
use Rattle.month_in_place.proofs.may_be_month.Goals as goal

pub returns-then-too_many : goal.returns-then-too_many
returns-then-too_many c =
    let ws = c.args.words.now in
    entered ws _ c.requires (by_orders ws (sym c.too_many.ensures ∙ c.if-too_many.true))

pub returns-then-words-ge186 : goal.returns-then-words-ge186
returns-then-words-ge186 c =
    let ws = c.args.words.now in
    entered ws _ c.requires (by_place ws (sym c.too_many.ensures ∙ c.if-too_many.false) (le-leb _ _ c.if-words-ge186.true))

pub returns : goal.returns
returns c =
    let ws = c.args.words.now in
    entered ws _ c.requires (by_length ws (sym c.too_many.ensures ∙ c.if-too_many.false) (lt-leb _ _ c.if-words-ge186.false))
