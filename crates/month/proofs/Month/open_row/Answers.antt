-- 3, 4, 6, 17, then 18; else the quantum opens.
use Rattle.std.proofs.Common.{Err, Ok}
use Prim.Native.Nat.{ℕ}
use mathlib.Core.Path.{◌≡◌, ap, sym, ◌∙◌}
use mathlib.Core.Bool.{Bool, true, ◌&&◌}
use native.Mathlib.Omega.{arith}
use borrow.Author.Tests.{not-true, not-false}
use Rattle.rules.specs.declared.Cell.{Cell}
use Rattle.rules.specs.declared.Refusal.TheVariants.{ArgumentOutOfRange, CellFilled, QuantumOpen, LapseLimitOutOfRange, StrikesOutOfRange}
use Rattle.lists.specs.Lists.{within}
use Rattle.rules.specs.Cells.{good_cell, place_of, cell_at}
use Rattle.rules.specs.Calls.{Open}
use Rattle.rules.specs.Causes.{good_settlement, good_spread_rule}
use Rattle.lists.proofs.Lists.{both}
use Rattle.rules.proofs.Bounds.{cell_small}
use Rattle.month.proofs.Answers.{handed}
use Rattle.month.proofs.Fields.{row-names}
use Rattle.month.proofs.Calls.{open_range, open_filled, open_running, open_allowed, open_strike, open_done}
use borrow.Author.Rules.{rules}
use Rattle.month.proofs.Month.open_row.Goals as goal

pub returns-then-not-between-settlement : goal.returns-then-not-between-settlement
returns-then-not-between-settlement c =
    let tested : let a = c.args in (c.between.result && c.settlement.result) ≡ (within 1 31 a.day && good_settlement a.opening.spread) = λ i. c.between.ensures i && c.settlement.ensures i in
    λ words seven is.
    let a = c.args in
    handed a.self (Open words a.day a.opening) c.refused.result a.self (Err ArgumentOutOfRange) c.refused.ensures
    (open_range a.self words a.row a.day a.opening (record { seven = seven; is = is; good = c.requires.1 })
    (sym (tested) ∙ not-true _ c.if-not-between-settlement.true-raw))

pub place_of-place-requires : goal.place_of-place-requires
place_of-place-requires c =
    let cell-named : let a = c.args in good_cell a.day a.row.expiry a.row.quantum ≡ true =
    let good : let a = c.args in (within 1 31 a.day && good_settlement a.opening.spread) ≡ true =
    let tested : let a = c.args in (c.between.result && c.settlement.result) ≡ (within 1 31 a.day && good_settlement a.opening.spread) = λ i. c.between.ensures i && c.settlement.ensures i in
    sym (tested) ∙ not-false _ c.if-not-between-settlement.false-raw in
    row-names c.args.row c.args.day c.args.opening.spread c.requires.1 (both (within 1 31 c.args.day) (good_settlement c.args.opening.spread) (good)).0 in
    cell-named

pub at-cell-requires : goal.at-cell-requires
at-cell-requires c =
    let cell-named : let a = c.args in good_cell a.day a.row.expiry a.row.quantum ≡ true =
    let good : let a = c.args in (within 1 31 a.day && good_settlement a.opening.spread) ≡ true =
    let tested : let a = c.args in (c.between.result && c.settlement.result) ≡ (within 1 31 a.day && good_settlement a.opening.spread) = λ i. c.between.ensures i && c.settlement.ensures i in
    sym (tested) ∙ not-false _ c.if-not-between-settlement.false-raw in
    row-names c.args.row c.args.day c.args.opening.spread c.requires.1 (both (within 1 31 c.args.day) (good_settlement c.args.opening.spread) (good)).0 in
    let a = c.args in
    omega (arith, c.place_of-place.ensures, cell_small a.day a.row.expiry a.row.quantum (cell-named))

pub returns-then-cell : goal.returns-then-cell
returns-then-cell c =
    let good : let a = c.args in (within 1 31 a.day && good_settlement a.opening.spread) ≡ true =
    let tested : let a = c.args in (c.between.result && c.settlement.result) ≡ (within 1 31 a.day && good_settlement a.opening.spread) = λ i. c.between.ensures i && c.settlement.ensures i in
    sym (tested) ∙ not-false _ c.if-not-between-settlement.false-raw in
    let filled : (b : Bool) → c.at-cell.result.filled ≡ b
    → let a = c.args in (cell_at a.self.cells (place_of a.day a.row.expiry a.row.quantum)).filled ≡ b = λ b h. let a = c.args in
    ap (λ (p : ℕ). (cell_at a.self.cells p).filled) (sym c.place_of-place.ensures) ∙ ap (λ (x : Cell). x.filled) (sym c.at-cell.ensures) ∙ h in
    λ words seven is.
    let a = c.args in
    handed a.self (Open words a.day a.opening) c.refused-then-cell.result a.self (Err CellFilled) c.refused-then-cell.ensures
    (open_filled a.self words a.row a.day a.opening (record { seven = seven; is = is; good = c.requires.1 }) (good)
    (filled _ c.if-cell.true))

pub returns-then-self : goal.returns-then-self
returns-then-self c =
    let good : let a = c.args in (within 1 31 a.day && good_settlement a.opening.spread) ≡ true =
    let tested : let a = c.args in (c.between.result && c.settlement.result) ≡ (within 1 31 a.day && good_settlement a.opening.spread) = λ i. c.between.ensures i && c.settlement.ensures i in
    sym (tested) ∙ not-false _ c.if-not-between-settlement.false-raw in
    let filled : (b : Bool) → c.at-cell.result.filled ≡ b
    → let a = c.args in (cell_at a.self.cells (place_of a.day a.row.expiry a.row.quantum)).filled ≡ b = λ b h. let a = c.args in
    ap (λ (p : ℕ). (cell_at a.self.cells p).filled) (sym c.place_of-place.ensures) ∙ ap (λ (x : Cell). x.filled) (sym c.at-cell.ensures) ∙ h in
    λ words seven is.
    let a = c.args in
    handed a.self (Open words a.day a.opening) c.refused-then-self.result a.self (Err QuantumOpen) c.refused-then-self.ensures
    (open_running a.self words a.row a.day a.opening (record { seven = seven; is = is; good = c.requires.1 }) (good)
    (filled _ c.if-cell.false) c.if-self.true)

pub returns-then-not-lapse_limit : goal.returns-then-not-lapse_limit
returns-then-not-lapse_limit c =
    let good : let a = c.args in (within 1 31 a.day && good_settlement a.opening.spread) ≡ true =
    let tested : let a = c.args in (c.between.result && c.settlement.result) ≡ (within 1 31 a.day && good_settlement a.opening.spread) = λ i. c.between.ensures i && c.settlement.ensures i in
    sym (tested) ∙ not-false _ c.if-not-between-settlement.false-raw in
    let filled : (b : Bool) → c.at-cell.result.filled ≡ b
    → let a = c.args in (cell_at a.self.cells (place_of a.day a.row.expiry a.row.quantum)).filled ≡ b = λ b h. let a = c.args in
    ap (λ (p : ℕ). (cell_at a.self.cells p).filled) (sym c.place_of-place.ensures) ∙ ap (λ (x : Cell). x.filled) (sym c.at-cell.ensures) ∙ h in
    λ words seven is.
    let a = c.args in
    handed a.self (Open words a.day a.opening) c.refused-then-not-lapse_limit.result a.self (Err LapseLimitOutOfRange) c.refused-then-not-lapse_limit.ensures
    (open_allowed a.self words a.row a.day a.opening (record { seven = seven; is = is; good = c.requires.1 }) (good)
    (filled _ c.if-cell.false) c.if-self.false
    (sym c.lapse_limit.ensures ∙ not-true _ c.if-not-lapse_limit.true-raw))

pub returns-then-not-in_range : goal.returns-then-not-in_range
returns-then-not-in_range c =
    let good : let a = c.args in (within 1 31 a.day && good_settlement a.opening.spread) ≡ true =
    let tested : let a = c.args in (c.between.result && c.settlement.result) ≡ (within 1 31 a.day && good_settlement a.opening.spread) = λ i. c.between.ensures i && c.settlement.ensures i in
    sym (tested) ∙ not-false _ c.if-not-between-settlement.false-raw in
    let filled : (b : Bool) → c.at-cell.result.filled ≡ b
    → let a = c.args in (cell_at a.self.cells (place_of a.day a.row.expiry a.row.quantum)).filled ≡ b = λ b h. let a = c.args in
    ap (λ (p : ℕ). (cell_at a.self.cells p).filled) (sym c.place_of-place.ensures) ∙ ap (λ (x : Cell). x.filled) (sym c.at-cell.ensures) ∙ h in
    λ words seven is.
    let a = c.args in
    handed a.self (Open words a.day a.opening) c.refused-then-not-in_range.result a.self (Err StrikesOutOfRange) c.refused-then-not-in_range.ensures
    (open_strike a.self words a.row a.day a.opening (record { seven = seven; is = is; good = c.requires.1 }) (good)
    (filled _ c.if-cell.false) c.if-self.false
    (sym c.lapse_limit.ensures ∙ not-false _ c.if-not-lapse_limit.false-raw) (sym c.in_range.ensures ∙ not-true _ c.if-not-in_range.true-raw))

pub opened-quantum-requires : goal.opened-quantum-requires
opened-quantum-requires c =
    let in_range : let a = c.args in good_spread_rule a.opening.spread ≡ true = sym c.in_range.ensures ∙ not-false _ c.if-not-in_range.false-raw in
    (c.requires.1, in_range)

pub returns : goal.returns
returns c =
    let good : let a = c.args in (within 1 31 a.day && good_settlement a.opening.spread) ≡ true =
    let tested : let a = c.args in (c.between.result && c.settlement.result) ≡ (within 1 31 a.day && good_settlement a.opening.spread) = λ i. c.between.ensures i && c.settlement.ensures i in
    sym (tested) ∙ not-false _ c.if-not-between-settlement.false-raw in
    let filled : (b : Bool) → c.at-cell.result.filled ≡ b
    → let a = c.args in (cell_at a.self.cells (place_of a.day a.row.expiry a.row.quantum)).filled ≡ b = λ b h. let a = c.args in
    ap (λ (p : ℕ). (cell_at a.self.cells p).filled) (sym c.place_of-place.ensures) ∙ ap (λ (x : Cell). x.filled) (sym c.at-cell.ensures) ∙ h in
    let in_range : let a = c.args in good_spread_rule a.opening.spread ≡ true = sym c.in_range.ensures ∙ not-false _ c.if-not-in_range.false-raw in
    λ words seven is.
    let a = c.args in
    handed a.self (Open words a.day a.opening) c.accepted.result _ (Ok tt) c.accepted.ensures
    (open_done a.self words a.row a.day a.opening (record { seven = seven; is = is; good = c.requires.1 }) (good)
    (filled _ c.if-cell.false) c.if-self.false
    (sym c.lapse_limit.ensures ∙ not-false _ c.if-not-lapse_limit.false-raw) (in_range) c.opened-quantum.result
    c.place_of-place.result c.opened-quantum.ensures c.place_of-place.ensures)
