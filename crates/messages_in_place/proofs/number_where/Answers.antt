-- By the test.
use mathlib.Core.Path.{sym, ap, ◌∙◌}
use mathlib.Core.Bool.{Bool}
use Rattle.messages_in_place.specs.Internal.{number_where}
use borrow.Author.Rules.{rules}
use Rattle.messages_in_place.proofs.number_where.Goals as goal

pub returns-then-applies : goal.returns-then-applies
returns-then-applies c =
    c.from.ensures ∙ ap (λ (b : Bool). number_where b c.args.refusal) (sym c.if-applies.true)

pub returns : goal.returns
returns c =
    ap (λ (b : Bool). number_where b c.args.refusal) (sym c.if-applies.false)
