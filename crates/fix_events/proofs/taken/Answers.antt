-- Each message is answered by its type.
use Rattle.std.proofs.Common.{ap, ◌∙◌}
use Rattle.rules.specs.Answers.{accepted}
use Rattle.rules.specs.Messages.{with_time}
use Rattle.fix_dates.specs.Answers.{shown_moment}
use Rattle.fix_reader.specs.declared.Message.{Message}
use Rattle.fix_reader.specs.Answers.{values_shown}
use borrow.Author.Rules.{rules}
use Rattle.fix_events.proofs.taken.Goals as goal

pub returns-in-New : goal.returns-in-New
returns-in-New c = λ start bytes h.
    c.new_order.ensures start bytes (h ∙ ap (λ (m : Message). accepted (with_time (values_shown m) (shown_moment c.args.timed.when))) c.in-New.is)

pub returns-in-Cancel : goal.returns-in-Cancel
returns-in-Cancel c = λ start bytes h.
    c.cancel_order.ensures start bytes (h ∙ ap (λ (m : Message). accepted (with_time (values_shown m) (shown_moment c.args.timed.when))) c.in-Cancel.is)

pub returns-in-Replace : goal.returns-in-Replace
returns-in-Replace c = λ start bytes h.
    c.replace_order.ensures start bytes (h ∙ ap (λ (m : Message). accepted (with_time (values_shown m) (shown_moment c.args.timed.when))) c.in-Replace.is)
