-- The other side's refusal, both calls at a time that is one, or the time's refusal.
use mathlib.Core.Path.{◌≡◌, refl, ap, sym, ◌∙◌}
use mathlib.Core.Bool.{Bool, true, false}
use Rattle.rules.specs.Dates.{Moment}
use Rattle.rules.specs.Messages.{replace_order, Message}
use Rattle.rules.specs.Calls.{Book}
use Rattle.rules.specs.Causes.{other_side_in}
use Rattle.fix_dates.specs.Answers.{timely}
use Rattle.fix_events.specs.Answers.{InBook}
use Rattle.fix_events.proofs.Messages.{said_side, said-early, said_late, said-both}
use borrow.Author.Rules.{rules}
use Rattle.fix_events.proofs.replace_order.Goals as goal

pub returns-then-other_side : goal.returns-then-other_side
returns-then-other_side c =
    let said : Moment → Message Moment = λ t. replace_order c.args.id c.args.orig c.args.side c.args.volume c.args.price t in
    let sided : (k : Bool) → c.other_side.result ≡ k → (t : Moment) (b : Book) → InBook c.args.quantum c.args.running b
    → other_side_in b.running (said t) ≡ k = λ k e t b h. sym (c.other_side.ensures c.args.id c.args.volume c.args.price t b h) ∙ e in
    said_side c.args.quantum c.args.running (said) c.refused.result c.args.when (sided true c.if-other_side.true) c.refused.ensures

pub returns-in-At : goal.returns-in-At
returns-in-At c =
    let said : Moment → Message Moment = λ t. replace_order c.args.id c.args.orig c.args.side c.args.volume c.args.price t in
    let sided : (k : Bool) → c.other_side.result ≡ k → (t : Moment) (b : Book) → InBook c.args.quantum c.args.running b
    → other_side_in b.running (said t) ≡ k = λ k e t b h. sym (c.other_side.ensures c.args.id c.args.volume c.args.price t b h) ∙ e in
    let k = ap timely c.in-At.is in
    said-both c.args.quantum c.args.running (said) (λ t. refl) (sided false c.if-other_side.false) (timely c.args.when) _ _ _ c.both_or_neither.result k refl c.both_or_neither.ensures

pub returns-in-Before : goal.returns-in-Before
returns-in-Before c =
    let said : Moment → Message Moment = λ t. replace_order c.args.id c.args.orig c.args.side c.args.volume c.args.price t in
    let sided : (k : Bool) → c.other_side.result ≡ k → (t : Moment) (b : Book) → InBook c.args.quantum c.args.running b
    → other_side_in b.running (said t) ≡ k = λ k e t b h. sym (c.other_side.ensures c.args.id c.args.volume c.args.price t b h) ∙ e in
    let k = ap timely c.in-Before.is in
    said-early c.args.quantum c.args.running (said) (λ t. refl) (sided false c.if-other_side.false) c.untimely.result (timely c.args.when) k c.untimely.ensures

pub returns-in-Late : goal.returns-in-Late
returns-in-Late c =
    let said : Moment → Message Moment = λ t. replace_order c.args.id c.args.orig c.args.side c.args.volume c.args.price t in
    let sided : (k : Bool) → c.other_side.result ≡ k → (t : Moment) (b : Book) → InBook c.args.quantum c.args.running b
    → other_side_in b.running (said t) ≡ k = λ k e t b h. sym (c.other_side.ensures c.args.id c.args.volume c.args.price t b h) ∙ e in
    let k = ap timely c.in-Late.is in
    said_late c.args.quantum c.args.running (said) (λ t. refl) (sided false c.if-other_side.false) c.untimely-in-Late.result (timely c.args.when) k c.untimely-in-Late.ensures
