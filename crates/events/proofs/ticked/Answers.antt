-- By the test of the fields.
use borrow.Author.Rules.{rules}
use mathlib.Core.Path.{sym, ◌∙◌}
use Rattle.events.proofs.Steps.{ticked_good, ticked_bad}
use Rattle.events.proofs.ticked.Goals as goal

pub returns-then-is_good : goal.returns-then-is_good
returns-then-is_good c = ticked_good c.args.clock c.args.f (sym c.is_good.ensures ∙ c.if-is_good.true) c.onward.result c.onward.ensures

pub returns : goal.returns
returns c = ticked_bad c.args.clock c.args.f (sym c.is_good.ensures ∙ c.if-is_good.false)
