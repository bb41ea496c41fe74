-- Time runs on by the clock.
use Rattle.session_account.proofs.Gathered.{bounds_by, grown_by}
use Rattle.session_account.proofs.MarksGather.grow.Goals as goal

pub grow-requires : goal.grow-requires
grow-requires c = bounds_by c.args.self c.args.clock c.args.state c.args.to c.args.buffer.now c.requires

pub returns : goal.returns
returns c = grown_by c.args.self c.args.clock c.args.state c.args.to c.args.buffer.now c.grow.result c.grow.new.buffer c.grow.ensures
