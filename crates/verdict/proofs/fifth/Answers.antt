-- The power of a number up to 800 fits.
use Rattle.std.proofs.Common.{arith}
use Rattle.std.proofs.Math.Nat.{pow-le-pow_left}
use Rattle.verdict.proofs.fifth.Goals as goal

pub pow-requires : goal.pow-requires
pow-requires c = let h = pow-le-pow_left c.requires 5 in omega arith
