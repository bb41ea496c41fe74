-- 3, 4, 6, 17, then 18; else the quantum opens.
use native.Mathlib.Omega.{arith}
use mathlib.Core.Path.{◌≡◌, sym, ◌∙◌}
use mathlib.Core.Bool.{true, ◌&&◌}
use borrow.Author.Tests.{not-true, not-false}
use lib.ListN.{drop, length-drop}
use lib.Seq.{length-take-le}
use Rattle.lists.specs.Lists.{within}
use Rattle.rules.specs.Cells.{good_cell}
use Rattle.rules.specs.Causes.{good_settlement, good_spread_rule}
use Rattle.lists.proofs.Lists.{both}
use Rattle.rules.proofs.Places.{cell_small}
use Rattle.month.proofs.Fields.{row-names}
use Rattle.quanta_in_place.proofs.Openings.{open_out, open_full, open_on, open_unlimited, open_strikes, open_goes}
use borrow.Author.Rules.{rules}
use Rattle.quanta_in_place.proofs.open_row.Goals as goal

pub returns-then-not-both : goal.returns-then-not-both
returns-then-not-both c =
    let tested : c.both.result ≡ (within 1 31 c.args.day && good_settlement c.args.opening.spread) = c.both.ensures ∙ λ i. c.between.ensures i && c.settlement.ensures i in
    λ words seven is.
    let a = c.args in
    open_out a.words.now words a.row a.day a.opening (record { seven = seven; is = is; good = c.requires.2 }) c.from.result c.from.ensures
    (sym (tested) ∙ not-true _ c.if-not-both.true-raw)

pub place_of-place-requires : goal.place_of-place-requires
place_of-place-requires c =
    let named : good_cell c.args.day c.args.row.expiry c.args.row.quantum ≡ true =
    let good : (within 1 31 c.args.day && good_settlement c.args.opening.spread) ≡ true =
    let tested : c.both.result ≡ (within 1 31 c.args.day && good_settlement c.args.opening.spread) = c.both.ensures ∙ λ i. c.between.ensures i && c.settlement.ensures i in
    sym (tested) ∙ not-false _ c.if-not-both.false-raw in
    let a = c.args in row-names a.row a.day a.opening.spread c.requires.2 (both (within 1 31 a.day) (good_settlement a.opening.spread) (good)).0 in
    named

pub at-cell-requires : goal.at-cell-requires
at-cell-requires c =
    let named : good_cell c.args.day c.args.row.expiry c.args.row.quantum ≡ true =
    let good : (within 1 31 c.args.day && good_settlement c.args.opening.spread) ≡ true =
    let tested : c.both.result ≡ (within 1 31 c.args.day && good_settlement c.args.opening.spread) = c.both.ensures ∙ λ i. c.between.ensures i && c.settlement.ensures i in
    sym (tested) ∙ not-false _ c.if-not-both.false-raw in
    let a = c.args in row-names a.row a.day a.opening.spread c.requires.2 (both (within 1 31 a.day) (good_settlement a.opening.spread) (good)).0 in
    let a = c.args in
    let ws = a.words.now in (
      length-take-le 1860 (drop 604 ws) (omega (arith, length-drop 604 ws, c.requires.1)),
      omega (arith, c.place_of-place.ensures, cell_small a.day a.row.expiry a.row.quantum (named)),
    )

pub returns-then-cell : goal.returns-then-cell
returns-then-cell c =
    let good : (within 1 31 c.args.day && good_settlement c.args.opening.spread) ≡ true =
    let tested : c.both.result ≡ (within 1 31 c.args.day && good_settlement c.args.opening.spread) = c.both.ensures ∙ λ i. c.between.ensures i && c.settlement.ensures i in
    sym (tested) ∙ not-false _ c.if-not-both.false-raw in
    λ words seven is.
    let a = c.args in
    open_full a.words.now words a.row a.day a.opening (record { seven = seven; is = is; good = c.requires.2 }) c.from-then-cell.result (good) c.place_of-place.result c.place_of-place.ensures
    c.at-cell.result c.at-cell.ensures c.from-then-cell.ensures c.if-cell.true

pub returns-then-words-ne0 : goal.returns-then-words-ne0
returns-then-words-ne0 c =
    let good : (within 1 31 c.args.day && good_settlement c.args.opening.spread) ≡ true =
    let tested : c.both.result ≡ (within 1 31 c.args.day && good_settlement c.args.opening.spread) = c.both.ensures ∙ λ i. c.between.ensures i && c.settlement.ensures i in
    sym (tested) ∙ not-false _ c.if-not-both.false-raw in
    λ words seven is.
    let a = c.args in
    open_on a.words.now words a.row a.day a.opening (record { seven = seven; is = is; good = c.requires.2 }) c.from-then-words-ne0.result (good) c.place_of-place.result c.place_of-place.ensures
    c.at-cell.result c.at-cell.ensures c.if-cell.false c.from-then-words-ne0.ensures c.if-words-ne0.true

pub returns-then-not-lapse_limit : goal.returns-then-not-lapse_limit
returns-then-not-lapse_limit c =
    let good : (within 1 31 c.args.day && good_settlement c.args.opening.spread) ≡ true =
    let tested : c.both.result ≡ (within 1 31 c.args.day && good_settlement c.args.opening.spread) = c.both.ensures ∙ λ i. c.between.ensures i && c.settlement.ensures i in
    sym (tested) ∙ not-false _ c.if-not-both.false-raw in
    λ words seven is.
    let a = c.args in
    open_unlimited a.words.now words a.row a.day a.opening (record { seven = seven; is = is; good = c.requires.2 }) c.from-then-not-lapse_limit.result (good) c.place_of-place.result c.place_of-place.ensures
    c.at-cell.result c.at-cell.ensures c.if-cell.false c.if-words-ne0.false c.from-then-not-lapse_limit.ensures (sym c.lapse_limit.ensures ∙ not-true _ c.if-not-lapse_limit.true-raw)

pub returns-then-not-in_range : goal.returns-then-not-in_range
returns-then-not-in_range c =
    let good : (within 1 31 c.args.day && good_settlement c.args.opening.spread) ≡ true =
    let tested : c.both.result ≡ (within 1 31 c.args.day && good_settlement c.args.opening.spread) = c.both.ensures ∙ λ i. c.between.ensures i && c.settlement.ensures i in
    sym (tested) ∙ not-false _ c.if-not-both.false-raw in
    λ words seven is.
    let a = c.args in
    open_strikes a.words.now words a.row a.day a.opening (record { seven = seven; is = is; good = c.requires.2 }) c.from-then-not-in_range.result (good) c.place_of-place.result c.place_of-place.ensures
    c.at-cell.result c.at-cell.ensures c.if-cell.false c.if-words-ne0.false (sym c.lapse_limit.ensures ∙ not-false _ c.if-not-lapse_limit.false-raw) c.from-then-not-in_range.ensures (sym c.in_range.ensures ∙ not-true _ c.if-not-in_range.true-raw)

pub overflow_cast-place : goal.overflow_cast-place
overflow_cast-place c =
    let named : good_cell c.args.day c.args.row.expiry c.args.row.quantum ≡ true =
    let good : (within 1 31 c.args.day && good_settlement c.args.opening.spread) ≡ true =
    let tested : c.both.result ≡ (within 1 31 c.args.day && good_settlement c.args.opening.spread) = c.both.ensures ∙ λ i. c.between.ensures i && c.settlement.ensures i in
    sym (tested) ∙ not-false _ c.if-not-both.false-raw in
    let a = c.args in row-names a.row a.day a.opening.spread c.requires.2 (both (within 1 31 a.day) (good_settlement a.opening.spread) (good)).0 in
    let a = c.args in
    omega (arith, c.place_of-place.ensures, cell_small a.day a.row.expiry a.row.quantum (named))

pub restart-requires : goal.restart-requires
restart-requires c =
    let in_range : good_spread_rule c.args.opening.spread ≡ true = sym c.in_range.ensures ∙ not-false _ c.if-not-in_range.false-raw in
    (c.requires.1, c.requires.2, in_range)

pub returns : goal.returns
returns c =
    let good : (within 1 31 c.args.day && good_settlement c.args.opening.spread) ≡ true =
    let tested : c.both.result ≡ (within 1 31 c.args.day && good_settlement c.args.opening.spread) = c.both.ensures ∙ λ i. c.between.ensures i && c.settlement.ensures i in
    sym (tested) ∙ not-false _ c.if-not-both.false-raw in
    let in_range : good_spread_rule c.args.opening.spread ≡ true = sym c.in_range.ensures ∙ not-false _ c.if-not-in_range.false-raw in
    λ words seven is.
    let a = c.args in
    open_goes a.words.now words a.row a.day a.opening (record { seven = seven; is = is; good = c.requires.2 }) 0 (good) c.place_of-place.result c.place_of-place.ensures
    c.at-cell.result c.at-cell.ensures c.if-cell.false c.if-words-ne0.false (sym c.lapse_limit.ensures ∙ not-false _ c.if-not-lapse_limit.false-raw) (in_range) c.restart.new.words c.restart.ensures
