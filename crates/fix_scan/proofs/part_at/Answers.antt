-- `fix_scan::part_at` meets its contract: the length that the message says, against the bytes that are there.
use mathlib.Core.Path.{sym, ap, ◌∙◌}
use lib.ListN.{length-drop}
use Rattle.fix_scan.proofs.part_at.Goals as goal

pub returns-in_default : goal.returns-in_default
returns-in_default c = sym c.size_at.ensures ∙ c.in_default.is

pub returns-then-b-at : goal.returns-then-b-at
returns-then-b-at c = (c.in-Some.n, sym c.size_at.ensures ∙ c.in-Some.is, rw (length-drop c.args.at c.args.b.now) c.if-b-at.true)

pub returns : goal.returns
returns c = (sym c.size_at.ensures ∙ c.in-Some.is, rw (length-drop c.args.at c.args.b.now) c.if-b-at.false)
