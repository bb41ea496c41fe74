-- One call more at a time comes to their number at once.
use Rattle.std.proofs.Common.{sym}
use Rattle.records_in_place.proofs.Counts.{count_many}
use Rattle.records_in_place.proofs.counted.Goals as goal

pub returns : goal.returns
returns c = sym (count_many c.args.more c.args.count c.ranges.count.fits)
