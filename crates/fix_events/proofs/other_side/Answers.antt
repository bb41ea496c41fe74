-- The quantum is asked, open or idle.
use Rattle.fix_events.proofs.Answers.{quantum_reached}
use Rattle.fix_events.proofs.Messages.{side_is}
use Rattle.fix_events.proofs.other_side.Goals as goal

pub on_other_side-requires : goal.on_other_side-requires
on_other_side-requires c = quantum_reached c.args.quantum c.args.running c.requires

pub returns : goal.returns
returns c =
    side_is c.args.quantum c.args.running c.args.side c.args.id c.on_other_side.result c.on_other_side.ensures
