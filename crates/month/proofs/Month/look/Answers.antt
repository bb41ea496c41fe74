-- 3, then 5; else the cell as `view_of` has it.
use mathlib.Core.Path.{refl, ap, sym, ◌∙◌}
use Rattle.rules.specs.declared.Cell.{Cell}
use Rattle.rules.specs.declared.Refusal.{Refusal}
use Rattle.rules.specs.Answers.{refused, number_of}
use Rattle.rules.specs.Calls.{Look}
use Prim.Native.Nat.{ℕ}
use Rattle.month.specs.declared.Month.{Month}
use Rattle.month.specs.Represents.{Answered}
use Rattle.rules.specs.Terms.{paper}
use Rattle.rules.specs.Pay.{view_of}
use Rattle.rules.proofs.Bounds.{cell_small}
use Rattle.month.proofs.Fields.{cell_good}
use Rattle.cells.proofs.Finding.{IsUnfound, out, blank, named_none, named_filled}
use Rattle.month.proofs.Calls.{look_range, look_blank, look_done}
use borrow.Author.Rules.{rules}
use Rattle.month.proofs.Month.look.Goals as goal

-- why no filled cell is found is why the call is refused
unfound : (m : Month) (day expiry quantum : ℕ) (r : Refusal) → IsUnfound m.cells day expiry quantum r → Answered m (Look day expiry quantum) m (refused (number_of r))
unfound m d e q _ (out o) = look_range m d e q o
unfound m d e q _ (blank o b) = look_blank m d e q o b

pub view-requires : goal.view-requires
view-requires c =
    let a = c.args in
    let f = named_filled a.self.cells a.day a.expiry a.quantum _ _ (sym c.find.ensures ∙ c.in-Ok.is) in
    cell_good a.self c.requires _ (cell_small a.day a.expiry a.quantum f.good) _ f.is (ap (λ (x : Cell). x.filled) f.is ∙ f.filled)

pub returns-in-Err : goal.returns-in-Err
returns-in-Err c =
    let a = c.args in
    (refl, unfound a.self a.day a.expiry a.quantum _ (named_none a.self.cells a.day a.expiry a.quantum _ (sym c.find.ensures ∙ c.in-Err.is)))

pub returns-in-Ok : goal.returns-in-Ok
returns-in-Ok c =
    let a = c.args in
    let f = named_filled a.self.cells a.day a.expiry a.quantum _ _ (sym c.find.ensures ∙ c.in-Ok.is) in
    (refl, look_done a.self a.day a.expiry a.quantum f.good f.filled c.view.result (c.view.ensures ∙ ap (view_of paper) f.is))
