-- What the cells answer, and the count.
use native.Mathlib.Omega.{arith}
use lib.ListN.{drop, length-drop}
use lib.Seq.{length-take-le}
use Rattle.quanta_in_place.proofs.Quanta.{withdraw_stops, withdraw_goes}
use borrow.Author.Rules.{rules}
use Rattle.quanta_in_place.proofs.withdraw.Goals as goal

pub withdraw-n-requires : goal.withdraw-n-requires
withdraw-n-requires c =
    length-take-le 1860 (drop 604 c.args.words.now) (omega (arith, length-drop 604 c.args.words.now, c.requires.1))

pub returns-then-n-gt0 : goal.returns-then-n-gt0
returns-then-n-gt0 c =
    let a = c.args in
    withdraw_stops a.words.now a.day a.expiry a.quantum c.withdraw-n.new.words c.withdraw-n.result c.withdraw-n.ensures c.if-n-gt0.true

pub returns : goal.returns
returns c =
    let a = c.args in
    withdraw_goes a.words.now a.day a.expiry a.quantum c.withdraw-n.new.words c.withdraw-n.result c.withdraw-n.ensures c.if-n-gt0.false c.count_on.new.words c.count_on.ensures
