-- What was found, and what the ids from here on will add, is what is looked for.
use Prim.Native.Nat.{◌+◌}
use Rattle.order_side.proofs.Seen.{Passed}
use Rattle.order_side.proofs.scan.Given as goal

abbrev pub invariant-loop-i : goal.invariant-loop-i
invariant-loop-i l = Passed l.id l.ids l.found (l.i + 1) l.i
