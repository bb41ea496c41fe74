-- What the quantum answers.
use Rattle.std.proofs.Common.{Ok}
use Rattle.rules.specs.Calls.{Message}
use Rattle.month.proofs.Answers.{handed}
use Rattle.month.proofs.Fields.{held}
use Rattle.month.proofs.Messages.{message_refused, message_done}
use borrow.Author.Rules.{rules}
use Rattle.month.proofs.Month.message.Goals as goal

pub message-sent-requires : goal.message-sent-requires
message-sent-requires c = held c.args.self c.requires

pub returns-in-Ok : goal.returns-in-Ok
returns-in-Ok c =
    let m = c.args.self in
    handed m (Message c.args.start.now c.args.message.now) c.accepted.result _ (Ok tt) c.accepted.ensures
    (message_done m c.args.start.now c.args.message.now c.message-sent.result c.message-sent.ensures c.further-count.result c.further-count.ensures
    c.in-Ok.is)

pub returns-in-Err : goal.returns-in-Err
returns-in-Err c =
    let m = c.args.self in
    handed m (Message c.args.start.now c.args.message.now) c.refused.result m _ c.refused.ensures
    (message_refused m c.args.start.now c.args.message.now c.message-sent.result c.message-sent.ensures _ c.in-Err.is)
