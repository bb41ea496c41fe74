-- The invariant: the state stands for the R passed, and no period began early.
use Prim.Native.Nat.{◌-◌, ◌≤◌}
use mathlib.Core.Path.{◌≡◌}
use mathlib.Core.Bool.{false}
use lib.ListN.{length}
use Rattle.volatile.specs.Internal.{early}
use Rattle.volatile.proofs.Represents.{Represents}
use Rattle.volatile.proofs.inside.Given as goal

abbrev pub invariant-loop-i : goal.invariant-loop-i
invariant-loop-i l =
    (l.i - 1 ≤ length l.prices - 1) × Represents l.prices l.threshold (l.i - 1) l.state × (early l.state.phase ≡ false)
