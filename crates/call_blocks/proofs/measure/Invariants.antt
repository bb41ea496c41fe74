-- The invariant is `Passed`: what is read of the whole list is what was read so far and what is read from there on. The measure is the
-- number of words left.
use Prim.Native.Nat.{◌-◌}
use lib.ListN.{length, drop}
use Rattle.words.specs.Bytes.{words_in}
use Rattle.call_blocks.specs.Kinds.{block_size}
use Rattle.call_blocks.proofs.Loops.{Passed}
use Rattle.call_blocks.proofs.measure.Given as goal

abbrev pub invariant-loop-size : goal.invariant-loop-size
invariant-loop-size l = Passed (words_in l.bytes) l.calls l.at (block_size (drop l.at (words_in l.bytes)))

abbrev pub decreases-loop-size : goal.decreases-loop-size
decreases-loop-size l = length (words_in l.bytes) - l.at
