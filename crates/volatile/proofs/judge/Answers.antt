-- The sigma, pushed and checked.
use Rattle.sigma.proofs.Changes.{narrow}
use Rattle.volatile.proofs.Steps.{judge_is}
use Rattle.volatile.proofs.judge.Goals as goal

pub returns : goal.returns
returns c =
    let a = c.args in
    let ready = c.requires.0 in
    let e = rw (narrow a.s.older ready.older, narrow a.s.newer ready.newer, narrow a.r c.requires.1) at c.sigma-sigma.ensures in (
      rw (narrow a.s.newer ready.newer, narrow a.r c.requires.1)
          (judge_is a.s 0 a.r a.threshold c.sigma-sigma.result c.push-window.result c.after-phase.result e.0
          c.push-window.ensures c.after-phase.ensures),
      rw e.0 at e.1,
    )
