-- The invariant is `Underway`: the words before the place are read, and the month is that of their calls. The measure is the number of
-- words left.
use Prim.Native.Nat.{◌-◌}
use lib.ListN.{length}
use Rattle.words.specs.Bytes.{words_in}
use Rattle.call_step.proofs.Playing.{Underway}
use Rattle.replay.proofs.play.Given as goal

abbrev pub invariant-loop-at : goal.invariant-loop-at
invariant-loop-at g l = Underway (words_in l.bytes) l.initial.month l.month l.at × goal.F-IsAlwaysCallable g l.show

abbrev pub decreases-loop-at : goal.decreases-loop-at
decreases-loop-at g l = length (words_in l.bytes) - l.at
