-- `fix_scan::clear` meets its contract: filled with 0.
use Rattle.std.proofs.Common.{arith, rules}
use Rattle.fix_scan.proofs.clear.Goals as goal

pub returns : goal.returns
returns c = c.fill.ensures.after (λ y h. h)
