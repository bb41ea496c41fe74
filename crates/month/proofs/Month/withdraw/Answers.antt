-- 3, then 5; else the cell is blank again.
use Rattle.std.proofs.Common.{Err, Ok}
use Prim.Native.Nat.{ℕ}
use mathlib.Core.Path.{sym, subst, ◌∙◌}
use native.Mathlib.Omega.{arith}
use Rattle.rules.specs.declared.Refusal.TheVariants.{ArgumentOutOfRange, CellBlank}
use Rattle.rules.specs.Answers.{accepted, refused, done, number_of}
use Rattle.rules.specs.declared.Refusal.{Refusal}
use Rattle.rules.specs.Calls.{Withdraw}
use Rattle.rules.proofs.Bounds.{cell_small}
use Rattle.month.specs.declared.Month.{Month}
use Rattle.month.specs.Represents.{Answered}
use Rattle.month.specs.Internal.{with_cell, counted}
use Rattle.month.proofs.Answers.{handed}
use Rattle.cells.proofs.Finding.{IsUnfound, out, blank, named_none, named_filled}
use Rattle.month.proofs.Calls.{withdraw_range, withdraw_blank, withdraw_done}
use borrow.Author.Rules.{rules}
use Rattle.month.proofs.Month.withdraw.Goals as goal

-- why no filled cell is found is why the call is refused
unfound : (m : Month) (day expiry quantum : ℕ) (r : Refusal) → IsUnfound m.cells day expiry quantum r → Answered m (Withdraw day expiry quantum) m (refused (number_of r))
unfound m d e q _ (out o) = withdraw_range m d e q o
unfound m d e q _ (blank o b) = withdraw_blank m d e q o b

pub with_cell-requires : goal.with_cell-requires
with_cell-requires c =
    let a = c.args in
    let f = named_filled a.self.cells a.day a.expiry a.quantum _ _ (sym c.find.ensures ∙ c.in-Ok.is) in
    omega (arith, f.at, cell_small a.day a.expiry a.quantum f.good)

pub returns-in-Err : goal.returns-in-Err
returns-in-Err c =
    let a = c.args in
    handed a.self (Withdraw a.day a.expiry a.quantum) c.refused.result a.self (Err c.in-Err.refusal) c.refused.ensures
    (unfound a.self a.day a.expiry a.quantum _ (named_none a.self.cells a.day a.expiry a.quantum _ (sym c.find.ensures ∙ c.in-Err.is)))

pub returns-in-Ok : goal.returns-in-Ok
returns-in-Ok c =
    let a = c.args in
    let m = a.self in
    let f = named_filled m.cells a.day a.expiry a.quantum _ _ (sym c.find.ensures ∙ c.in-Ok.is) in
    handed m (Withdraw a.day a.expiry a.quantum) c.accepted.result _ (Ok tt) c.accepted.ensures
    (subst (λ (n : Month). Answered m (Withdraw a.day a.expiry a.quantum) (counted n) (accepted done))
    (sym (c.with_cell.ensures ∙ λ i. with_cell m (f.at i) (c.blank_cell.ensures i)))
    (withdraw_done m a.day a.expiry a.quantum f.good f.filled))
