-- `fix_scan::rows` meets its contract. The loop's invariant: the rows that are made, in front of those that are ahead, are those of the scan.
use Prim.Native.Nat.{◌-◌}
use lib.ListN.{length}
use Rattle.fix_scan.proofs.Going.{Going}
use Rattle.fix_scan.proofs.rows.Given as goal

abbrev pub invariant-loop-at : goal.invariant-loop-at
invariant-loop-at l = Going l.b l.tags l.initial.words l.words l.at l.used

abbrev pub decreases-loop-at : goal.decreases-loop-at
decreases-loop-at l = length l.b - l.at
