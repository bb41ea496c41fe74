-- `fix_fields::end_of` meets its contract. The loop's invariant: no byte 1 was passed, and the place is inside.
use Prim.Native.Nat.{◌-◌}
use borrow.Author.Rules.{rules}
use lib.ListN.{length}
use Rattle.fix_fields.proofs.Passing.{Passed, start, onward, onward_2, onward_3, onward_4, found}
use Rattle.fix_fields.proofs.end_of.Given as goal

abbrev pub invariant-loop-i : goal.invariant-loop-i
invariant-loop-i l = Passed l.b l.from l.i

abbrev pub decreases-loop-i : goal.decreases-loop-i
decreases-loop-i l = length l.b - l.i
