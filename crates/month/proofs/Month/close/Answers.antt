-- 3, then 7; else the cell is filled and the quantum forgotten.
use Rattle.std.proofs.Common.{Err, Ok}
use mathlib.Core.Path.{◌≡◌, sym, ap, subst, ◌∙◌}
use mathlib.Core.Bool.{true}
use borrow.Author.Tests.{not-true, not-false}
use Rattle.rules.specs.declared.Refusal.TheVariants.{ArgumentOutOfRange, NoQuantumOpen}
use Rattle.rules.specs.Terms.{paper}
use Rattle.rules.specs.Answers.{accepted, done}
use Rattle.rules.specs.Calls.{Close}
use Rattle.rules.specs.Causes.{good_charges}
use Rattle.month.specs.declared.Month.{Month}
use Rattle.month.specs.Represents.{Answered}
use Rattle.month.specs.Internal.{without_quantum, counted}
use Rattle.month.proofs.Answers.{handed}
use Rattle.month.proofs.Fields.{quantum_reached, place_inside}
use Rattle.month.proofs.Calls.{close_range, close_idle, close_done}
use borrow.Author.Rules.{rules}
use Rattle.month.proofs.Month.close.Goals as goal

pub returns-then-not-both_charges : goal.returns-then-not-both_charges
returns-then-not-both_charges c =
    let a = c.args in
    handed a.self (Close a.active a.passive) c.refused.result a.self (Err ArgumentOutOfRange) c.refused.ensures
    (close_range a.self a.active a.passive (sym c.both_charges.ensures ∙ not-true _ c.if-not-both_charges.true-raw))

pub returns-then-not-self : goal.returns-then-not-self
returns-then-not-self c =
    let good : good_charges paper c.args.active c.args.passive ≡ true = sym c.both_charges.ensures ∙ not-false _ c.if-not-both_charges.false-raw in
    let a = c.args in
    handed a.self (Close a.active a.passive) c.refused-then-not-self.result a.self (Err NoQuantumOpen) c.refused-then-not-self.ensures
    (close_idle a.self a.active a.passive (good) (not-true _ c.if-not-self.true))

pub ended-totals-requires : goal.ended-totals-requires
ended-totals-requires c = quantum_reached c.args.self c.requires

pub with_cell-requires : goal.with_cell-requires
with_cell-requires c = place_inside c.args.self c.requires

pub returns : goal.returns
returns c =
    let good : good_charges paper c.args.active c.args.passive ≡ true = sym c.both_charges.ensures ∙ not-false _ c.if-not-both_charges.false-raw in
    let a = c.args in
    let m = a.self in
    handed m (Close a.active a.passive) c.accepted.result _ (Ok tt) c.accepted.ensures
    (subst (λ (n : Month). Answered m (Close a.active a.passive) (counted n) (accepted done))
    (sym (c.without_quantum.ensures ∙ ap without_quantum c.with_cell.ensures))
    (close_done m a.active a.passive (good) (not-false _ c.if-not-self.false) c.ended-totals.result c.whole.result
    c.ended-totals.ensures c.whole.ensures))
