-- By the number of R before it.
use native.Mathlib.Omega.{arith}
use mathlib.Core.Path.{◌∙◌}
use Rattle.sigma.proofs.Changes.{narrow}
use Rattle.volatile.proofs.Steps.{first_two, from_third}
use Rattle.volatile.proofs.turn.Goals as goal

pub returns-then-i-lt2 : goal.returns-then-i-lt2
returns-then-i-lt2 c =
    let a = c.args in
    (rw (narrow a.s.newer c.requires.0.newer, narrow a.r c.requires.1) (first_two a.s a.i a.r a.threshold c.if-i-lt2.true), λ h. absurd (omega arith))

pub returns : goal.returns
returns c =
    let a = c.args in
    let e = rw (narrow a.r c.requires.1) at c.judge.ensures in
    (e.0 ∙ from_third a.s a.i a.r a.threshold c.if-i-lt2.false, λ h. e.1)
