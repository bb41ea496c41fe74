-- The four tests, joined.
use Rattle.rules.specs.Strikes.{good_strike}
use Rattle.strike.proofs.is_good.Goals as goal

pub returns : goal.returns
unfolding good_strike
returns c = cc
