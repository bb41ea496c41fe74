-- `call_step::handed_on` meets its contract: seven is seven.
use native.Mathlib.Omega.{arith}
use mathlib.Core.Path.{refl}
use borrow.Author.Tests.{eq-eqb, ne_eqb}
use Rattle.call_step.proofs.handed_on.Goals as goal

pub returns-then-length-eq7 : goal.returns-then-length-eq7
returns-then-length-eq7 c = (rw (eq-eqb _ _ c.if-length-eq7.true) refl, omega arith)

pub returns : goal.returns
returns c = (rw (ne_eqb _ _ c.if-length-eq7.false) refl, omega arith)
