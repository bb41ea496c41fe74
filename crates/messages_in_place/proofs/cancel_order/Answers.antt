-- One event at a time that is one; else the time's refusal.
use mathlib.Core.Path.{refl, ap}
use Rattle.rules.specs.Terms.{paper}
use Rattle.rules.specs.Messages.{cancel_order}
use Rattle.rules.specs.Book.{after}
use Rattle.fix_dates.specs.Answers.{timely}
use Rattle.fix_events.proofs.Messages.{cancel_right}
use Rattle.messages_in_place.proofs.Messages.{said-early, said_late, said-one}
use borrow.Author.Rules.{rules}
use Rattle.messages_in_place.proofs.cancel_order.Goals as goal

pub returns-in-At : goal.returns-in-At
returns-in-At c = (
  said-one c.args.words.now (λ t. cancel_order c.args.id c.args.orig t) (timely c.args.when) (λ t. refl) (λ t calls is. cancel_right c.args.id c.args.orig t (after paper calls).running) _ _ c.send.new.words c.send.result
      (ap timely c.in-At.is) refl (c.send.ensures.0 _ c.event_fields.ensures),
  c.send.ensures.1,
)

pub returns-in-Before : goal.returns-in-Before
returns-in-Before c =
    (said-early c.args.words.now (λ t. cancel_order c.args.id c.args.orig t) (timely c.args.when) (λ t. refl) (λ t calls is. cancel_right c.args.id c.args.orig t (after paper calls).running) (ap timely c.in-Before.is) c.none_open_or.result c.none_open_or.ensures, λ refused. refl)

pub returns-in-Late : goal.returns-in-Late
returns-in-Late c =
    (said_late c.args.words.now (λ t. cancel_order c.args.id c.args.orig t) (timely c.args.when) (λ t. refl) (λ t calls is. cancel_right c.args.id c.args.orig t (after paper calls).running) (ap timely c.in-Late.is) c.none_open_or-in-Late.result c.none_open_or-in-Late.ensures, λ refused. refl)
