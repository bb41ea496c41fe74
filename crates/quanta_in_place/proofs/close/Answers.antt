-- 3, then 7; else the cell is filled and the quantum forgotten.
use native.Mathlib.Omega.{arith}
use mathlib.Core.Path.{◌≡◌, sym, ◌∙◌}
use mathlib.Core.Bool.{true}
use borrow.Author.Tests.{not-true, not-false}
use lib.ListN.{drop, length-drop}
use lib.Seq.{length-take-le}
use Rattle.rules.specs.Terms.{paper}
use Rattle.rules.specs.Causes.{good_charges}
use Rattle.month_in_place.proofs.Entry.{place_small}
use Rattle.quanta_in_place.proofs.Openings.{close_out, close_none, close_onward, close_room, close_goes}
use borrow.Author.Rules.{rules}
use Rattle.quanta_in_place.proofs.close.Goals as goal

pub returns-then-not-both_charges : goal.returns-then-not-both_charges
returns-then-not-both_charges c = let a = c.args in close_out a.words.now a.active a.passive c.from.result c.from.ensures (sym c.both_charges.ensures ∙ not-true _ c.if-not-both_charges.true-raw)

pub returns-then-words-eq0 : goal.returns-then-words-eq0
returns-then-words-eq0 c =
    let good : good_charges paper c.args.active c.args.passive ≡ true = sym c.both_charges.ensures ∙ not-false _ c.if-not-both_charges.false-raw in
    let a = c.args in close_none a.words.now a.active a.passive c.from-then-words-eq0.result c.from-then-words-eq0.ensures (good) c.if-words-eq0.true

pub ended-totals-requires : goal.ended-totals-requires
ended-totals-requires c = close_onward c.args.words.now c.duty_in-duty.result c.clock_in-clock.result c.duty_in-duty.ensures c.clock_in-clock.ensures c.requires.0

pub put-requires : goal.put-requires
put-requires c =
    let ws = c.args.words.now in
    (length-take-le 1860 (drop 604 ws) (omega (arith, length-drop 604 ws, c.requires.1)), omega (arith, c.length-place.ensures.0, place_small ws c.requires.1 c.requires.0))

pub forget-requires : goal.forget-requires
forget-requires c = close_room c.args.words.now c.put.new.words c.length-place.result _ c.requires.0 c.requires.1 c.put.ensures

pub returns : goal.returns
returns c =
    let good : good_charges paper c.args.active c.args.passive ≡ true = sym c.both_charges.ensures ∙ not-false _ c.if-not-both_charges.false-raw in
    let a = c.args in
    close_goes a.words.now c.duty_in-duty.result c.clock_in-clock.result c.duty_in-duty.ensures c.clock_in-clock.ensures a.active a.passive c.ended-totals.result c.ended-totals.ensures
    c.if-words-eq0.false (good) c.length-place.result c.length-place.ensures.0 c.put.new.words c.put.ensures c.forget.new.words c.forget.ensures
