-- With none open 7; else the outlook on the open quantum, by its duty and its clock.
use mathlib.Core.Path.{refl}
use borrow.Author.Tests.{not-true, not-false}
use Rattle.month.proofs.Calls.{outlook_idle, outlook_stands, outlook_done}
use borrow.Author.Rules.{rules}
use Rattle.month.proofs.Month.outlook.Goals as goal

pub returns-then-not-self : goal.returns-then-not-self
returns-then-not-self c = (refl, outlook_idle c.args.self (not-true _ c.if-not-self.true))

pub of-seen-requires : goal.of-seen-requires
of-seen-requires c =
    outlook_stands c.args.self c.duty.result c.clock.result c.duty.ensures c.clock.ensures c.requires (not-false _ c.if-not-self.false)

pub returns : goal.returns
returns c = (
  refl,
  outlook_done c.args.self c.duty.result c.clock.result c.duty.ensures c.clock.ensures (not-false _ c.if-not-self.false)
      c.of-seen.result c.of-seen.ensures,
)
