-- Each strike reaches the share.
use Rattle.std.proofs.Common.{rules}
use Rattle.std.proofs.iter.runs.Made.{chains}
use Rattle.rules.specs.Boards.{reaches}
use Rattle.board.proofs.Fronts.{every-all}
use Rattle.board.proofs.do_reach.Goals as goal

pub returns : goal.returns
returns c = every-all (reaches c.args.first c.args.l) c.args.strikes.now c.all.result (search (rules, chains))
