-- `fix_tag_spans::spans_any` meets its contract. The loop's invariant: the fields read so far are in front of those that are left, and each
-- wanted tag has its words of them.
use Prim.Native.Nat.{◌-◌}
use lib.ListN.{length}
use Rattle.fix_tag_spans.proofs.AnySearching.{Progress}
use Rattle.fix_tag_spans.proofs.spans_any.Given as goal

abbrev pub invariant-loop-at : goal.invariant-loop-at
invariant-loop-at l = Progress l.b l.start l.tags l.spans l.at

abbrev pub decreases-loop-at : goal.decreases-loop-at
decreases-loop-at l = length l.b - l.at
