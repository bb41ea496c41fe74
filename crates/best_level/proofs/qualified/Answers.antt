-- By its test.
use Prim.Native.Nat.{◌+◌}
use native.Mathlib.Omega.{arith}
use mathlib.Core.Path.{sym}
use borrow.Author.Rules.{rules}
use Rattle.best_level.proofs.Nexts.{where_enough, where_short}
use Rattle.best_level.proofs.qualified.Goals as goal

pub returns-then-minimum-sum : goal.returns-then-minimum-sum
returns-then-minimum-sum c =
    let a = c.args in
    sym (where_enough a.minimum.0 (a.level.before + a.level.at) a.level.key a.start (omega (arith, c.sum.ensures, c.if-minimum-sum.true)))

pub returns : goal.returns
returns c =
    let a = c.args in
    sym (where_short a.minimum.0 (a.level.before + a.level.at) a.level.key a.start (omega (arith, c.sum.ensures, c.if-minimum-sum.false)))
