-- 3, then 5; else the cell is blank again.
use Prim.Native.Nat.{ℕ}
use mathlib.Core.Path.{sym, ap, ◌∙◌}
use native.Mathlib.Omega.{arith}
use lib.ListN.{set}
use Rattle.rules.specs.declared.Cell.{Cell}
use Rattle.rules.specs.Cells.{blank_cell, place_of, cell_at}
use Rattle.lent.specs.Words.{cells_words}
use Rattle.rules.proofs.Places.{cell_small}
use Rattle.cells_in_place.proofs.Cells.{cell_out, cell_blank, cell_changed}
use borrow.Author.Tests.{not-true, not-false}
use Rattle.cells_in_place.proofs.withdraw.Goals as goal

pub returns-then-not-cell : goal.returns-then-not-cell
returns-then-not-cell c =
    let a = c.args in
    cell_out a.words.now _ (place_of a.day a.expiry a.quantum) (λ (x : Cell). blank_cell) c.from.result c.from.ensures
    (sym c.cell.ensures ∙ c.if-not-cell.true)

pub place_of-place-requires : goal.place_of-place-requires
place_of-place-requires c =
    sym c.cell.ensures ∙ c.if-not-cell.false

pub at-cell-requires : goal.at-cell-requires
at-cell-requires c =
    let a = c.args in
    (c.requires, omega (arith, c.place_of-place.ensures, cell_small a.day a.expiry a.quantum (sym c.cell.ensures ∙ c.if-not-cell.false)))

pub returns-then-not-cell-2 : goal.returns-then-not-cell-2
returns-then-not-cell-2 c =
    let a = c.args in
    cell_blank a.words.now _ (place_of a.day a.expiry a.quantum) (λ (x : Cell). blank_cell) (sym c.cell.ensures ∙ c.if-not-cell.false) c.at-cell.result
    (λ cells is. c.at-cell.ensures cells is ∙ ap (cell_at cells) c.place_of-place.ensures) c.from-then-not-cell-2.result c.from-then-not-cell-2.ensures (not-true _ c.if-not-cell-2.true)

pub put-requires : goal.put-requires
put-requires c =
    let a = c.args in
    (c.requires, omega (arith, c.place_of-place.ensures, cell_small a.day a.expiry a.quantum (sym c.cell.ensures ∙ c.if-not-cell.false)))

pub returns : goal.returns
returns c =
    let a = c.args in
    cell_changed a.words.now _ (place_of a.day a.expiry a.quantum) (λ (x : Cell). blank_cell) (sym c.cell.ensures ∙ c.if-not-cell.false) c.at-cell.result
    (λ cells is. c.at-cell.ensures cells is ∙ ap (cell_at cells) c.place_of-place.ensures) (not-false _ c.if-not-cell-2.false) c.blank_cell.result c.blank_cell.ensures c.put.new.words
    (λ cells is. c.put.ensures cells is ∙ ap (λ (p : ℕ). cells_words (set cells p c.blank_cell.result)) c.place_of-place.ensures)
