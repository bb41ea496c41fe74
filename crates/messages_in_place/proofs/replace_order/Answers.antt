-- The other side's refusal, both events at a time that is one, or the time's refusal.
use native.Mathlib.Omega.{arith}
use mathlib.Core.Path.{refl, sym, ap, ◌∙◌, subst}
use lib.ListN.{drop, length-drop}
use lib.Seq.{length-take-le}
use Rattle.fix_dates.specs.Answers.{timely}
use Rattle.month_in_place.proofs.Months.{holds_quantum}
use Rattle.messages_in_place.specs.Internal.{replaced_at, MessageChanges}
use Rattle.messages_in_place.proofs.Messages.{said_side, said-early, said_late, said-both, side_of_lem}
use borrow.Author.Rules.{rules}
use Rattle.messages_in_place.proofs.replace_order.Goals as goal

pub other_side-requires : goal.other_side-requires
other_side-requires c =
    let ws = c.args.words.now in
    (holds_quantum ws c.requires.0, length-take-le 598 (drop 6 ws) (omega (arith, length-drop 6 ws, c.requires.1)))

pub returns-then-other_side : goal.returns-then-other_side
returns-then-other_side c =
    let ws = c.args.words.now in (
      subst (MessageChanges ws (replaced_at c.args.order c.args.orig) (timely c.args.when) ws) (sym c.from.ensures)
          (said_side ws (replaced_at c.args.order c.args.orig) c.args.when (λ t calls is. sym (side_of_lem c.args.words.now c.args.order.side c.args.orig c.other_side.result c.other_side.ensures c.args.order.id c.args.order.volume c.args.order.price t calls is) ∙ c.if-other_side.true)),
      λ refused. refl,
    )

pub returns-in-At : goal.returns-in-At
returns-in-At c = (
  said-both c.args.words.now c.args.orig c.args.order (timely c.args.when) _ c.both_or_neither.new.words c.both_or_neither.result (ap timely c.in-At.is)
      (λ t calls is. sym (side_of_lem c.args.words.now c.args.order.side c.args.orig c.other_side.result c.other_side.ensures c.args.order.id c.args.order.volume c.args.order.price t calls is) ∙ c.if-other_side.false) c.both_or_neither.ensures.0,
  c.both_or_neither.ensures.1,
)

pub returns-in-Before : goal.returns-in-Before
returns-in-Before c =
    (said-early c.args.words.now (replaced_at c.args.order c.args.orig) (timely c.args.when) (λ t. refl) (λ t calls is. sym (side_of_lem c.args.words.now c.args.order.side c.args.orig c.other_side.result c.other_side.ensures c.args.order.id c.args.order.volume c.args.order.price t calls is) ∙ c.if-other_side.false) (ap timely c.in-Before.is) c.none_open_or.result c.none_open_or.ensures, λ refused. refl)

pub returns-in-Late : goal.returns-in-Late
returns-in-Late c =
    (said_late c.args.words.now (replaced_at c.args.order c.args.orig) (timely c.args.when) (λ t. refl) (λ t calls is. sym (side_of_lem c.args.words.now c.args.order.side c.args.orig c.other_side.result c.other_side.ensures c.args.order.id c.args.order.volume c.args.order.price t calls is) ∙ c.if-other_side.false) (ap timely c.in-Late.is) c.none_open_or-in-Late.result c.none_open_or-in-Late.ensures, λ refused. refl)
