-- `fix_fields::spans_of` meets its contract. The loop's invariant: the fields read so far stand in front of those that are left, and each slot holds the values of its tag.
use mathlib.Core.Path.{refl}
use mathlib.Core.Bool.{false}
use native.Mathlib.Omega.{arith}
use Prim.Native.Nat.{◌-◌}
use lib.ListN.{length}
use Rattle.fix_fields.proofs.Searching.{Progress, begins, not_last, stops, finishes, seventh, next-inside, slot_small, emptied, onwards, farther}
use Rattle.fix_fields.proofs.spans_of.Given as goal

abbrev pub invariant-loop-at : goal.invariant-loop-at
invariant-loop-at l = Progress l.b l.start l.spans l.at

abbrev pub decreases-loop-at : goal.decreases-loop-at
decreases-loop-at l = length l.b - l.at
