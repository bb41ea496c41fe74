-- The event's fields say it.
use borrow.Author.Rules.{rules}
use Rattle.month_words.proofs.event.Goals as goal

pub returns : goal.returns
returns c =
    (c.send.ensures.0 c.args.e c.event_fields-f.ensures, c.send.ensures.1)
