-- 3, then 5; else the new charges.
use mathlib.Core.Path.{sym, ap, ◌∙◌}
use mathlib.Core.Bool.{Bool, ◌&&◌, and-false}
use native.Mathlib.Omega.{arith}
use Prim.Native.Nat.{ℕ}
use lib.ListN.{set}
use Rattle.lent.specs.Words.{cells_words}
use Rattle.rules.specs.Terms.{paper}
use Rattle.rules.specs.Cells.{good_cell, place_of, cell_at}
use Rattle.rules.specs.Causes.{good_charges}
use Rattle.rules.specs.Changes.{charged}
use Rattle.lists.proofs.Lists.{and}
use Rattle.rules.proofs.Places.{cell_small}
use Rattle.cells_in_place.proofs.Cells.{cell_out, cell_blank, cell_changed}
use borrow.Author.Tests.{not-true, not-false}
use Rattle.cells_in_place.proofs.charge.Goals as goal

pub returns-then-not-both_charges : goal.returns-then-not-both_charges
returns-then-not-both_charges c =
    let a = c.args in
    cell_out a.words.now _ (place_of a.day a.expiry a.quantum) (charged a.active a.passive) c.from.result c.from.ensures
    (ap (λ (t : Bool). good_cell a.day a.expiry a.quantum && t) (sym c.both_charges.ensures ∙ c.if-not-both_charges.true)
    ∙ and-false (good_cell a.day a.expiry a.quantum))

pub returns-then-not-cell : goal.returns-then-not-cell
returns-then-not-cell c =
    let a = c.args in
    cell_out a.words.now _ (place_of a.day a.expiry a.quantum) (charged a.active a.passive) c.from-then-not-cell.result c.from-then-not-cell.ensures
    (ap (λ (t : Bool). t && good_charges paper a.active a.passive) (sym c.cell.ensures ∙ c.if-not-cell.true))

pub place_of-place-requires : goal.place_of-place-requires
place_of-place-requires c =
    sym c.cell.ensures ∙ c.if-not-cell.false

pub at-cell-requires : goal.at-cell-requires
at-cell-requires c =
    let a = c.args in
    (c.requires, omega (arith, c.place_of-place.ensures, cell_small a.day a.expiry a.quantum (sym c.cell.ensures ∙ c.if-not-cell.false)))

pub returns-then-not-cell-2 : goal.returns-then-not-cell-2
returns-then-not-cell-2 c =
    let a = c.args in
    cell_blank a.words.now _ (place_of a.day a.expiry a.quantum) (charged a.active a.passive) (and (sym c.cell.ensures ∙ c.if-not-cell.false) (sym c.both_charges.ensures ∙ c.if-not-both_charges.false)) c.at-cell.result
    (λ cells is. c.at-cell.ensures cells is ∙ ap (cell_at cells) c.place_of-place.ensures) c.from-then-not-cell-2.result c.from-then-not-cell-2.ensures (not-true _ c.if-not-cell-2.true)

pub put-requires : goal.put-requires
put-requires c =
    let a = c.args in
    (c.requires, omega (arith, c.place_of-place.ensures, cell_small a.day a.expiry a.quantum (sym c.cell.ensures ∙ c.if-not-cell.false)))

pub returns : goal.returns
returns c =
    let a = c.args in
    cell_changed a.words.now _ (place_of a.day a.expiry a.quantum) (charged a.active a.passive) (and (sym c.cell.ensures ∙ c.if-not-cell.false) (sym c.both_charges.ensures ∙ c.if-not-both_charges.false)) c.at-cell.result
    (λ cells is. c.at-cell.ensures cells is ∙ ap (cell_at cells) c.place_of-place.ensures) (not-false _ c.if-not-cell-2.false) c.recharged.result c.recharged.ensures c.put.new.words
    (λ cells is. c.put.ensures cells is ∙ ap (λ (p : ℕ). cells_words (set cells p c.recharged.result)) c.place_of-place.ensures)
