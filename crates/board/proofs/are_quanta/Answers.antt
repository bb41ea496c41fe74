-- Each strike passes the two tests of `good_quantum_of`.
use Rattle.std.proofs.Common.{rules}
use Rattle.std.proofs.iter.runs.Made.{chains}
use Rattle.rules.specs.Boards.{good_quantum_of}
use Rattle.board.proofs.Fronts.{every-all}
use Rattle.board.proofs.are_quanta.Goals as goal

pub returns : goal.returns
returns c = every-all (good_quantum_of c.args.l) c.args.strikes.now c.all.result (search (rules, chains))
