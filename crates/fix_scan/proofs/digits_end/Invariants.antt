-- The loop's invariant: the digits passed and those ahead are the digits at the front.
use Rattle.fix_scan.proofs.Sizing.{DigitsTo}
use Rattle.fix_scan.proofs.digits_end.Given as goal

abbrev pub invariant-loop-i : goal.invariant-loop-i
invariant-loop-i l = DigitsTo l.b l.from l.i
