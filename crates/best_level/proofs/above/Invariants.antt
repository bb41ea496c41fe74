-- The key next to it among those that were passed.
use Prim.Native.Nat.{◌≤◌}
use mathlib.Core.Path.{◌≡◌}
use lib.ListN.{take}
use Rattle.best_level.specs.Candidates.{key_above}
use Rattle.best_level.proofs.above.Given as goal

abbrev pub invariant-loop-k : goal.invariant-loop-k
invariant-loop-k l = (l.next ≡ key_above l.key (take l.k-index l.keys)) × (l.next ≤ 2000000001)
