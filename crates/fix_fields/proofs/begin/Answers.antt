-- `fix_fields::begin` meets its contract: its test, whether the old begin is 0, is the contract's own.
use borrow.Author.Tests.{eq-eqb, ne_eqb}
use Rattle.fix_fields.proofs.begin.Goals as goal

pub returns-then-old-eq0 : goal.returns-then-old-eq0
returns-then-old-eq0 c = simp (eq-eqb _ _ c.if-old-eq0.true)

pub returns : goal.returns
returns c = simp (ne_eqb _ _ c.if-old-eq0.false)
