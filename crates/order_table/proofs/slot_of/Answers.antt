-- By which scan found something.
use borrow.Author.Rules.{rules}
use borrow.Author.Tests.{lt-ltb, le-ltb}
use Rattle.order_table.proofs.slot_of.Goals as goal

pub returns-then-buys-gt0 : goal.returns-then-buys-gt0
returns-then-buys-gt0 c = simp (lt-ltb _ _ c.if-buys-gt0.true)

pub returns-then-sells-gt0 : goal.returns-then-sells-gt0
returns-then-sells-gt0 c = simp (le-ltb _ _ c.if-buys-gt0.false, lt-ltb _ _ c.if-sells-gt0.true)

pub returns : goal.returns
returns c = simp (le-ltb _ _ c.if-buys-gt0.false, le-ltb _ _ c.if-sells-gt0.false)
