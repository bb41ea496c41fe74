-- The loop's invariant: at each place passed there are 26 bytes, and 8=FIX. does not begin; where the search is over from the start, the
-- place is the first.
use Rattle.std.proofs.Common.{◌≡◌, ◌≤◌}
use Rattle.fix_scan.proofs.Starting.{Passed}
use Rattle.fix_scan.proofs.next_start.Given as goal

abbrev pub invariant-loop-i : goal.invariant-loop-i
invariant-loop-i l = Passed l.b l.from l.i × (l.end ≤ l.from → l.i ≡ l.from)
