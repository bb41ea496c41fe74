-- With none open 7, or nothing to do; else what the quantum's words answer, and the count.
use native.Mathlib.Omega.{arith}
use mathlib.Core.Path.{refl}
use lib.ListN.{drop, length-drop}
use lib.Seq.{length-take-le}
use Rattle.month_in_place.proofs.Months.{holds_quantum}
use Rattle.records_in_place.proofs.Months.{sends_none, sends_some}
use borrow.Author.Rules.{rules}
use Rattle.records_in_place.proofs.send.Goals as goal

pub returns-then-words-eq0 : goal.returns-then-words-eq0
returns-then-words-eq0 c =
    let e = c.idle.ensures in
    (sends_none c.args.words.now c.args.records.now c.if-words-eq0.true c.idle.result e.0 e.1, omega (arith, e.0), λ z. refl)

pub run-taken-requires : goal.run-taken-requires
run-taken-requires c =
    let ws = c.args.words.now in
    (holds_quantum ws c.requires.0, length-take-le 598 (drop 6 ws) (omega (arith, length-drop 6 ws, c.requires.1)), c.requires.2)

pub returns : goal.returns
returns c =
    (sends_some c.args.words.now c.args.records.now c.run-taken.new.words c.if-words-eq0.false c.run-taken.result c.run-taken.ensures.0 c.count_on.new.words c.count_on.ensures, c.run-taken.ensures.1, c.run-taken.ensures.2)
