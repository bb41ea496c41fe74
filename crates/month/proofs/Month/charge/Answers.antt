-- 3, then 5; else the new charges.
use Rattle.std.proofs.Common.{Err, Ok}
use mathlib.Core.Path.{◌≡◌, ap, sym, subst, ◌∙◌}
use mathlib.Core.Bool.{Bool, true, ◌&&◌, and-false}
use native.Mathlib.Omega.{arith}
use borrow.Author.Tests.{not-true, not-false}
use Rattle.rules.specs.declared.Refusal.TheVariants.{ArgumentOutOfRange, CellBlank}
use Rattle.rules.specs.declared.Refusal.{Refusal}
use Rattle.rules.specs.declared.Kopecks.{Kopecks}
use Prim.Native.Nat.{ℕ}
use Rattle.rules.specs.Terms.{paper}
use Rattle.rules.specs.Cells.{good_cell}
use Rattle.rules.specs.Answers.{accepted, refused, done, number_of}
use Rattle.rules.specs.Calls.{Call, Charge}
use Rattle.rules.specs.Causes.{good_charges}
use Rattle.rules.specs.Changes.{charged}
use Rattle.lists.proofs.Lists.{and}
use Rattle.rules.proofs.Bounds.{cell_small}
use Rattle.month.specs.declared.Month.{Month}
use Rattle.month.specs.Represents.{Answered}
use Rattle.month.specs.Internal.{with_cell, counted}
use Rattle.month.proofs.Answers.{handed}
use Rattle.cells.proofs.Finding.{IsUnfound, out, blank, named_none, named_filled}
use Rattle.month.proofs.Calls.{charge_range, charge_blank, charge_done}
use borrow.Author.Rules.{rules}
use Rattle.month.proofs.Month.charge.Goals as goal

pub returns-then-not-both_charges : goal.returns-then-not-both_charges
returns-then-not-both_charges c =
    let call : Call = let a = c.args in Charge a.day a.expiry a.quantum a.active a.passive in
    let a = c.args in
    handed a.self (call) c.refused.result a.self (Err ArgumentOutOfRange) c.refused.ensures
    (charge_range a.self a.day a.expiry a.quantum a.active a.passive
    (ap (λ (t : Bool). good_cell a.day a.expiry a.quantum && t) (sym c.both_charges.ensures ∙ not-true _ c.if-not-both_charges.true-raw)
    ∙ and-false (good_cell a.day a.expiry a.quantum)))

-- why no filled cell is found is why the call is refused
unfound : (m : Month) (day expiry quantum : ℕ) (active passive : Kopecks) → good_charges paper active passive ≡ true → (r : Refusal)
    → IsUnfound m.cells day expiry quantum r → Answered m (Charge day expiry quantum active passive) m (refused (number_of r))
unfound m d e q a p g _ (out o) = charge_range m d e q a p (ap (λ (t : Bool). t && good_charges paper a p) o)
unfound m d e q a p g _ (blank o b) = charge_blank m d e q a p (and o g) b

pub with_cell-requires : goal.with_cell-requires
with_cell-requires c =
    let a = c.args in
    let f = named_filled a.self.cells a.day a.expiry a.quantum _ _ (sym c.find.ensures ∙ c.in-Ok.is) in
    omega (arith, f.at, cell_small a.day a.expiry a.quantum f.good)

pub returns-in-Err : goal.returns-in-Err
returns-in-Err c =
    let a = c.args in
    let good : good_charges paper a.active a.passive ≡ true = sym c.both_charges.ensures ∙ not-false _ c.if-not-both_charges.false-raw in
    handed a.self (Charge a.day a.expiry a.quantum a.active a.passive) c.refused-in-Err.result a.self (Err c.in-Err.refusal) c.refused-in-Err.ensures
    (unfound a.self a.day a.expiry a.quantum a.active a.passive good _ (named_none a.self.cells a.day a.expiry a.quantum _ (sym c.find.ensures ∙ c.in-Err.is)))

pub returns-in-Ok : goal.returns-in-Ok
returns-in-Ok c =
    let a = c.args in
    let m = a.self in
    let call : Call = Charge a.day a.expiry a.quantum a.active a.passive in
    let good : good_charges paper a.active a.passive ≡ true = sym c.both_charges.ensures ∙ not-false _ c.if-not-both_charges.false-raw in
    let f = named_filled m.cells a.day a.expiry a.quantum _ _ (sym c.find.ensures ∙ c.in-Ok.is) in
    handed m call c.accepted.result _ (Ok tt) c.accepted.ensures
    (subst (λ (n : Month). Answered m call (counted n) (accepted done))
    (sym (c.with_cell.ensures ∙ λ i. with_cell m (f.at i) ((c.recharged.ensures ∙ ap (charged a.active a.passive) f.is) i)))
    (charge_done m a.day a.expiry a.quantum a.active a.passive (and f.good good) f.filled))
