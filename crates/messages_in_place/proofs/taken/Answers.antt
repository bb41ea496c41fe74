-- Each message is done by its type.
use Rattle.std.proofs.Common.{ap, sym, ◌∙◌}
use Rattle.rules.specs.declared.Order.{Order}
use Rattle.rules.specs.Answers.{accepted}
use Rattle.rules.specs.Messages.{with_time}
use Rattle.fix_dates.specs.Answers.{shown_moment}
use Rattle.fix_reader.specs.declared.Message.{Message}
use Rattle.fix_reader.specs.Answers.{values_shown}
use Rattle.messages_in_place.specs.Internal.{new_at, replaced_at}
use borrow.Author.Rules.{rules}
use Rattle.messages_in_place.proofs.taken.Goals as goal

pub returns-in-New : goal.returns-in-New
returns-in-New c = (
  λ start bytes h.
      c.new_order.ensures.0 start bytes
      (h ∙ ap (λ (m : Message). accepted (with_time (values_shown m) (shown_moment c.args.timed.when))) c.in-New.is ∙ ap (λ (o : Order). accepted (new_at o (shown_moment c.args.timed.when))) (sym c.order_of.ensures)),
  c.new_order.ensures.1,
)

pub returns-in-Cancel : goal.returns-in-Cancel
returns-in-Cancel c = (
  λ start bytes h.
      c.cancel_order.ensures.0 start bytes
      (h ∙ ap (λ (m : Message). accepted (with_time (values_shown m) (shown_moment c.args.timed.when))) c.in-Cancel.is),
  c.cancel_order.ensures.1,
)

pub returns-in-Replace : goal.returns-in-Replace
returns-in-Replace c = (
  λ start bytes h.
      c.replace_order.ensures.0 start bytes
      (h ∙ ap (λ (m : Message). accepted (with_time (values_shown m) (shown_moment c.args.timed.when))) c.in-Replace.is ∙ ap (λ (o : Order). accepted (replaced_at o c.in-Replace.orig (shown_moment c.args.timed.when))) (sym c.order_of-in-Replace.ensures)),
  c.replace_order.ensures.1,
)
