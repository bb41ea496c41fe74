-- `tally` meets its contract, case by case.
use native.Mathlib.Omega.{arith}
use Rattle.rules.specs.Pay.{cell_failed}
use Rattle.pay.proofs.tally.Goals as goal

pub returns-then-not-filled : goal.returns-then-not-filled
unfolding cell_failed
returns-then-not-filled c = (simp (c.if-not-filled.true), omega arith)

pub returns-then-met : goal.returns-then-met
unfolding cell_failed
returns-then-met c = (simp (c.if-not-filled.false, ← c.met.ensures, c.if-met.true), omega arith)

pub returns-else-met : goal.returns-else-met
unfolding cell_failed
returns-else-met c = (simp (c.if-not-filled.false, ← c.met.ensures, c.if-met.false), omega arith)
