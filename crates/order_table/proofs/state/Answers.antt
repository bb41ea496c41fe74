-- The state of the two best keys is the live orders' (`state_is`).
use borrow.Author.Rules.{rules}
use Rattle.order_table.proofs.Quotes.{state_is}
use Rattle.order_table.proofs.state.Goals as goal

pub returns : goal.returns
returns c row sp live good is widest =
    state_is c.args.table.now row sp live good is c.args.widest c.keys_state.result widest c.keys_state.ensures
