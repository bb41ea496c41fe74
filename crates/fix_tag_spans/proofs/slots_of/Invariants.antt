-- `fix_tag_spans::slots_of` meets its contract. The loop's invariant: the table is that of the tags before the place, and whether the tags
-- may be wanted is decided by those left.
use Rattle.fix_tag_spans.proofs.Wanting.{SlotsUpTo}
use Rattle.fix_tag_spans.proofs.slots_of.Given as goal

abbrev pub invariant-loop-i : goal.invariant-loop-i
invariant-loop-i l = SlotsUpTo l.tags l.slots l.i
