-- Its contract is its tests.
use Prim.Native.Nat.{ℕ}
use mathlib.Core.Path.{ap}
use mathlib.Core.Bool.{◌&&◌, ◌||◌}
use lib.Dec.{eqb, leb, ltb}
use Rattle.best_quote.specs.Levels.{is_best}
use Rattle.best_quote.proofs.is_best.Goals as goal

pub returns : goal.returns
unfolding is_best
returns c =
    let a = c.args in
    ap (λ (n : ℕ). ltb a.level.before a.minimum.0 && (eqb a.level.key 0 || leb a.minimum.0 n)) c.sum.ensures
