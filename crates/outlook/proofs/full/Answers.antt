-- By the test.
use borrow.Author.Rules.{rules}
use Rattle.outlook.proofs.full.Goals as goal

pub returns-then-reachable : goal.returns-then-reachable
returns-then-reachable c = simp (← c.reachable.ensures, c.if-reachable.true)

pub returns : goal.returns
returns c = simp (← c.reachable.ensures, c.if-reachable.false)
