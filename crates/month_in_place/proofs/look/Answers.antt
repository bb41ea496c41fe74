-- 3, then 5; else the cell with its verdict and weight.
use native.Mathlib.Omega.{arith}
use mathlib.Core.Path.{◌≡◌, sym, ◌∙◌}
use mathlib.Core.Bool.{true}
use borrow.Author.Tests.{not-true, not-false}
use lib.ListN.{drop, length-drop}
use lib.Seq.{length-take-le}
use Rattle.rules.specs.Terms.{paper}
use Rattle.rules.specs.Bounds.{CellBounds}
use Rattle.month_in_place.proofs.Looks.{looks_out, looks_good, looks_blank, looks_found}
use borrow.Author.Rules.{rules}
use Rattle.month_in_place.proofs.look.Goals as goal

pub returns-then-not-cell : goal.returns-then-not-cell
returns-then-not-cell c =
    let a = c.args in
    looks_out a.words.now a.day a.expiry a.quantum (sym c.cell.ensures ∙ not-true _ c.if-not-cell.true-raw)

pub cell_named-cell-requires : goal.cell_named-cell-requires
cell_named-cell-requires c =
    (length-take-le 1860 (drop 604 c.args.words.now) (omega (arith, length-drop 604 c.args.words.now, c.requires.1)), sym c.cell.ensures ∙ not-false _ c.if-not-cell.false-raw)

pub is_filled-requires : goal.is_filled-requires
is_filled-requires c =
    let good : c.cell_named-cell.result.filled ≡ true → CellBounds paper c.cell_named-cell.result = λ f. looks_good c.args.words.now c.args.day c.args.expiry c.args.quantum (sym c.cell.ensures ∙ not-false _ c.if-not-cell.false-raw) c.cell_named-cell.result c.cell_named-cell.ensures c.requires.0 f in
    good

pub view-requires : goal.view-requires
view-requires c =
    let good : c.cell_named-cell.result.filled ≡ true → CellBounds paper c.cell_named-cell.result = λ f. looks_good c.args.words.now c.args.day c.args.expiry c.args.quantum (sym c.cell.ensures ∙ not-false _ c.if-not-cell.false-raw) c.cell_named-cell.result c.cell_named-cell.ensures c.requires.0 f in
    good (sym c.is_filled.ensures ∙ c.if-is_filled.true)

pub returns-then-is_filled : goal.returns-then-is_filled
returns-then-is_filled c =
    looks_found c.args.words.now c.args.day c.args.expiry c.args.quantum (sym c.cell.ensures ∙ not-false _ c.if-not-cell.false-raw) c.cell_named-cell.result c.cell_named-cell.ensures (sym c.is_filled.ensures ∙ c.if-is_filled.true) c.view.result c.view.ensures

pub returns : goal.returns
returns c =
    looks_blank c.args.words.now c.args.day c.args.expiry c.args.quantum (sym c.cell.ensures ∙ not-false _ c.if-not-cell.false-raw) c.cell_named-cell.result c.cell_named-cell.ensures (sym c.is_filled.ensures ∙ c.if-is_filled.false)
