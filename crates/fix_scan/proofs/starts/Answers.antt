-- `fix_scan::starts` meets its contract: it compares the six bytes of `begins`, one by one.
use Rattle.fix_scan.proofs.Starting.{starts_is}
use Rattle.fix_scan.proofs.starts.Goals as goal

pub returns : goal.returns
returns c = starts_is c.args.b.now c.args.at c.requires
