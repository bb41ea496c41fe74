-- The loop's invariant: digits from the begin up to the place, which is inside, since the last byte is no digit.
use Rattle.std.proofs.Common.{◌-◌, length}
use Rattle.fix_fields.proofs.LongTags.{DigitsUpTo}
use Rattle.fix_fields.proofs.digits_end.Given as goal

abbrev pub invariant-loop-i : goal.invariant-loop-i
invariant-loop-i l = DigitsUpTo l.b l.from l.i

abbrev pub decreases-loop-i : goal.decreases-loop-i
decreases-loop-i l = length l.b - l.i
