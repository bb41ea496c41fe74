-- One call at a time that is one; else the time's refusal.
use mathlib.Core.Path.{refl, ap}
use Rattle.fix_dates.specs.Answers.{timely}
use Rattle.rules.specs.Dates.{Moment}
use Rattle.rules.specs.Messages.{new_order, Message}
use Rattle.fix_events.proofs.Messages.{said-early, said_late, said-one, new_right}
use borrow.Author.Rules.{rules}
use Rattle.fix_events.proofs.new_order.Goals as goal

pub returns-in-At : goal.returns-in-At
returns-in-At c =
    let said : Moment → Message Moment = λ t. new_order c.args.id c.args.side c.args.volume c.args.price t in
    let k = ap timely c.in-At.is in
    said-one c.args.quantum c.args.running (said) (λ t. refl) (λ t b k. new_right c.args.id c.args.side c.args.volume c.args.price t b.running) (timely c.args.when) _ _ c.send.result k refl c.send.ensures

pub returns-in-Before : goal.returns-in-Before
returns-in-Before c =
    let said : Moment → Message Moment = λ t. new_order c.args.id c.args.side c.args.volume c.args.price t in
    let k = ap timely c.in-Before.is in
    said-early c.args.quantum c.args.running (said) (λ t. refl) (λ t b k. new_right c.args.id c.args.side c.args.volume c.args.price t b.running) c.untimely.result (timely c.args.when) k c.untimely.ensures

pub returns-in-Late : goal.returns-in-Late
returns-in-Late c =
    let said : Moment → Message Moment = λ t. new_order c.args.id c.args.side c.args.volume c.args.price t in
    let k = ap timely c.in-Late.is in
    said_late c.args.quantum c.args.running (said) (λ t. refl) (λ t b k. new_right c.args.id c.args.side c.args.volume c.args.price t b.running) c.untimely-in-Late.result (timely c.args.when) k c.untimely-in-Late.ensures
