-- By the test of the fields, and whether the time is early.
use borrow.Author.Rules.{rules}
use mathlib.Core.Path.{sym, ◌∙◌}
use Rattle.events.proofs.Steps.{untimely-early, untimely_late, untimely_bad}
use Rattle.events.proofs.untimely.Goals as goal

pub returns-then-t-now : goal.returns-then-t-now
returns-then-t-now c = untimely-early c.args.clock c.args.f (sym c.is_good.ensures ∙ c.if-is_good.true) c.if-t-now.true

pub returns-then-is_good : goal.returns-then-is_good
returns-then-is_good c = untimely_late c.args.clock c.args.f (sym c.is_good.ensures ∙ c.if-is_good.true) c.if-t-now.false

pub returns : goal.returns
returns c = untimely_bad c.args.clock c.args.f (sym c.is_good.ensures ∙ c.if-is_good.false)
