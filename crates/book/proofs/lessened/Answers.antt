-- A cancel and a deal by their own functions; other fields by 15.
use mathlib.Core.Path.{sym, refl, ◌∙◌, subst}
use borrow.Author.Rules.{rules}
use Rattle.rules.specs.declared.Event.{Event}
use Rattle.rules.specs.Answers.{Outcome}
use Rattle.record.proofs.Reading.{says_not}
use Rattle.book.specs.Internal.{answered, answer, no_change, AppliedRead}
use Rattle.book.proofs.ByKind.{says_cancel, says_deal}
use Rattle.book.proofs.lessened.Goals as goal

pub returns-then-kind-eq4 : goal.returns-then-kind-eq4
returns-then-kind-eq4 c =
    let f = c.args.f in (
      λ minimum live represents at.
          subst (λ (o : Outcome Event). AppliedRead o minimum live c.args.table.now c.cancel.new.table (answered c.cancel.result))
          (says_cancel f (sym c.is_good.ensures ∙ c.if-is_good.true) c.if-kind-eq4.true)
          (c.cancel.ensures.0 f.t f.id minimum live represents at),
      c.cancel.ensures.1,
    )

pub returns-then-is_good : goal.returns-then-is_good
returns-then-is_good c =
    let f = c.args.f in (
      λ minimum live represents at.
          subst (λ (o : Outcome Event). AppliedRead o minimum live c.args.table.now c.deal.new.table (answered c.deal.result))
          (says_deal f (sym c.is_good.ensures ∙ c.if-is_good.true) c.requires.2 c.if-kind-eq4.false)
          (c.deal.ensures.0 f.t f.id minimum live represents at),
      c.deal.ensures.1,
    )

pub returns : goal.returns
returns c = (
  λ minimum live represents at.
      subst (λ (o : Outcome Event). AppliedRead o minimum live c.args.table.now c.args.table.now (answer 15 0 no_change))
      (says_not c.args.f (sym c.is_good.ensures ∙ c.if-is_good.false)) (refl, refl),
  refl,
)
