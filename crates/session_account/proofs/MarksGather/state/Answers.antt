-- The table says it.
use Rattle.session_account.proofs.Gathered.{table_long, word_is}
use Rattle.session_account.proofs.MarksGather.state.Goals as goal

pub state-requires : goal.state-requires
state-requires c = table_long c.args.duty c.args._clock c.args.table.now c.requires

pub returns : goal.returns
returns c = word_is c.args.duty c.args._clock c.args.table.now c.state.result c.state.ensures
