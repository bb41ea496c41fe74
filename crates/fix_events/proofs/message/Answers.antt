-- What was read, at its time, is answered by its type; what was not, by its refusal.
use Rattle.std.proofs.Common.{sym, subst}
use Rattle.rules.specs.Calls.{Message}
use Rattle.fix_events.specs.Answers.{Answered}
use Rattle.fix_events.proofs.Messages.{message_refused}
use borrow.Author.Rules.{rules}
use Rattle.fix_events.proofs.message.Goals as goal

pub returns-in-Ok : goal.returns-in-Ok
returns-in-Ok c = c.taken.ensures c.args.start.now c.args.message.now (sym c.in-Ok.ensures)

pub returns-in-Err : goal.returns-in-Err
returns-in-Err c =
    subst (Answered c.args.q c.args.running (Message c.args.start.now c.args.message.now)) (sym c.refused.ensures)
    (message_refused c.args.q c.args.running c.args.start.now c.args.message.now c.in-Err.refusal (sym c.in-Err.ensures))
