-- The loop's invariant: some events led to the run so far and its table, the records passed are theirs, and what was gathered is in the
-- marks and the buffer.
use Prim.Native.Nat.{◌+◌, ◌-◌, ◌/◌}
use lib.ListN.{length}
use Rattle.record_runs.proofs.Turns.{LoopBytes}
use Rattle.record_runs.proofs.Loop.{LoopState}
use Rattle.record_runs.proofs.run_over.Given as goal

abbrev pub invariant-loop-at : goal.invariant-loop-at
invariant-loop-at g l =
    LoopBytes l.at l.full (length l.records) l.most
    × LoopState g.M.Gather.gathered l.most l.fn.row l.fn.spread l.records l.fn.buffer l.run l.duty l.at (l.at / 20 + 1) l.table l.hints l.buffer

abbrev pub decreases-loop-at : goal.decreases-loop-at
decreases-loop-at g l = length l.records - l.at
