-- The level, with what was found to qualify, and one sum more where a price has its key.
use Prim.Native.Nat.{◌+◌}
use native.Mathlib.Omega.{arith}
use lib.Dec.{ltb}
use borrow.Author.Rules.{rules}
use Rattle.best_level.proofs.Counts.{at_most_one}
use Rattle.best_level.proofs.tried.Goals as goal

pub overflow_add-result : goal.overflow_add-result
overflow_add-result c =
    record { fits = omega (arith, c.requires.1, c.volume_where.ensures, at_most_one (ltb 0 c.args.level.key)) }

pub returns : goal.returns
returns c =
    let a = c.args in
    λ i. record { level = a.level; start = c.qualified.ensures i; sums = a.guess.sums + c.volume_where.ensures i }
