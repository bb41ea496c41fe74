-- With none open 7; else the quantum is forgotten.
use Rattle.std.proofs.Common.{Err, Ok}
use mathlib.Core.Path.{subst, sym}
use borrow.Author.Tests.{not-true, not-false}
use Rattle.rules.specs.declared.Refusal.TheVariants.{NoQuantumOpen}
use Rattle.rules.specs.Answers.{accepted, done}
use Rattle.rules.specs.Calls.{Drop}
use Rattle.month.specs.declared.Month.{Month}
use Rattle.month.specs.Represents.{Answered}
use Rattle.month.specs.Internal.{counted}
use Rattle.month.proofs.Answers.{handed}
use Rattle.month.proofs.Calls.{drop_idle, drop_done}
use borrow.Author.Rules.{rules}
use Rattle.month.proofs.Month.drop.Goals as goal

pub returns-then-not-self : goal.returns-then-not-self
returns-then-not-self c =
    let m = c.args.self in
    handed m Drop c.refused.result m (Err NoQuantumOpen) c.refused.ensures (drop_idle m (not-true _ c.if-not-self.true))

pub returns : goal.returns
returns c =
    let m = c.args.self in
    handed m Drop c.accepted.result _ (Ok tt) c.accepted.ensures
    (subst (λ (n : Month). Answered m Drop (counted n) (accepted done)) (sym c.without_quantum.ensures) (drop_done m (not-false _ c.if-not-self.false)))
