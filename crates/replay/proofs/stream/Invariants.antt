-- The buffer keeps its length, and what is held lies within it.
use Rattle.std.proofs.Common.{◌≡◌, ◌≤◌, length}
use Rattle.month.specs.Represents.{Reached}
use Rattle.replay.proofs.stream.Given as goal

abbrev pub invariant-loop : goal.invariant-loop
invariant-loop g l = (length l.bytes ≡ length l.initial.bytes) × (l.held ≤ length l.bytes) × Reached l.month
