-- With none open 7; else the quantum is forgotten.
use Rattle.quanta_in_place.proofs.Quanta.{drop_none, drop_goes}
use borrow.Author.Rules.{rules}
use Rattle.quanta_in_place.proofs.drop.Goals as goal

pub returns-then-words-eq0 : goal.returns-then-words-eq0
returns-then-words-eq0 c = drop_none c.args.words.now c.from.result c.from.ensures c.if-words-eq0.true

pub forget-requires : goal.forget-requires
forget-requires c = c.requires.1

pub returns : goal.returns
returns c = drop_goes c.args.words.now c.forget.new.words c.if-words-eq0.false c.forget.ensures
