-- By the test: 0 is SP.
use mathlib.Core.Path.{refl}
use borrow.Author.Tests.{eq-eqb, ne_eqb}
use Rattle.c_others.proofs.spread_for.Goals as goal

pub returns-then-strike-eq0 : goal.returns-then-strike-eq0
returns-then-strike-eq0 c = rw (eq-eqb _ _ c.if-strike-eq0.true) refl

pub returns : goal.returns
returns c = rw (ne_eqb _ _ c.if-strike-eq0.false) refl
