-- `call_step::message` meets its contract: what is handed on are the bytes that the block says.
use Rattle.call_step.proofs.Performing.{same_message}
use Rattle.call_step.proofs.message.Goals as goal

pub returns : goal.returns
returns c = same_message c.start.ensures c.message.ensures c.message-2.ensures
