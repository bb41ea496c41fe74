-- What was read, at its time, is done by its type; what was not is refused.
use Rattle.std.proofs.Common.{sym, subst, refl, arith}
use Rattle.rules.specs.Answers.{number_of}
use Rattle.rules.specs.Calls.{Message}
use Rattle.fix_events.proofs.Messages.{numbered}
use Rattle.month_in_place.specs.Events.{ChangesMonth}
use Rattle.messages_in_place.proofs.Messages.{message_unread}
use borrow.Author.Rules.{rules}
use Rattle.messages_in_place.proofs.message.Goals as goal

pub returns-in-Ok : goal.returns-in-Ok
returns-in-Ok c = (c.taken.ensures.0 c.args.start.now c.args.message.now (sym c.in-Ok.ensures), c.taken.ensures.1)

pub returns-in-Err : goal.returns-in-Err
returns-in-Err c =
    let ws = c.args.words.now in (
      subst (ChangesMonth ws (Message c.args.start.now c.args.message.now) ws) (sym c.from.ensures)
          (message_unread ws c.args.start.now c.args.message.now (number_of c.in-Err.refusal) (omega (arith, numbered c.in-Err.refusal)) (sym c.in-Err.ensures)),
      λ refused. refl,
    )
