-- With none open 7; else the outlook by its duty and its clock.
use Rattle.quanta_in_place.proofs.Shown.{outlook_none, outlook_held, outlook_shown}
use borrow.Author.Rules.{rules}
use Rattle.quanta_in_place.proofs.outlook.Goals as goal

pub returns-then-words-eq0 : goal.returns-then-words-eq0
returns-then-words-eq0 c = outlook_none c.args.words.now c.if-words-eq0.true

pub of-requires : goal.of-requires
of-requires c =
    outlook_held c.args.words.now c.if-words-eq0.false c.duty_in-duty.result c.clock_in-clock.result c.duty_in-duty.ensures c.clock_in-clock.ensures c.requires.0

pub returns : goal.returns
returns c =
    outlook_shown c.args.words.now c.if-words-eq0.false c.duty_in-duty.result c.clock_in-clock.result c.duty_in-duty.ensures c.clock_in-clock.ensures c.of.result c.of.ensures
