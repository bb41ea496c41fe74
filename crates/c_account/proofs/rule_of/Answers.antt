-- By whether it is a strike's.
use mathlib.Core.Path.{refl}
use borrow.Author.Tests.{eq-eqb, ne_eqb}
use Rattle.c_account.proofs.rule_of.Goals as goal

pub returns-then-strike-eq0 : goal.returns-then-strike-eq0
returns-then-strike-eq0 c = rw (eq-eqb c.args.strike 0 c.if-strike-eq0.true) refl

pub returns : goal.returns
returns c = rw (ne_eqb c.args.strike 0 c.if-strike-eq0.false) refl
