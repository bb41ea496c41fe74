-- The marks and what was checked so far are those of the first records.
use Rattle.std.proofs.Common.{◌≡◌}
use Rattle.standing_rules.specs.Internal.{marks_in, checked_in}
use Rattle.standing.proofs.judge.Given as goal

abbrev pub invariant-loop-j : goal.invariant-loop-j
invariant-loop-j l = record {
  marks : l.marks ≡ marks_in 65536 l.list l.j;
  checked : l.s ≡ checked_in l.list l.j;
}
