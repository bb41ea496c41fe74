-- By its test.
use mathlib.Core.Path.{sym}
use mathlib.Core.Bool.{◌&&◌}
use lib.Dec.{ltb}
use Rattle.best_level.proofs.Nexts.{where_enough, where_short}
use Rattle.best_level.proofs.can_be_best.Goals as goal

pub returns-then-minimum-level : goal.returns-then-minimum-level
returns-then-minimum-level c =
    let a = c.args in
    sym (where_enough a.minimum.0 a.level.before (ltb a.level.key a.key) (ltb 0 a.key && ltb a.key a.level.key) c.if-minimum-level.true)

pub returns : goal.returns
returns c =
    let a = c.args in
    sym (where_short a.minimum.0 a.level.before (ltb a.level.key a.key) (ltb 0 a.key && ltb a.key a.level.key) c.if-minimum-level.false)
