-- Word by word, where the side is one of the two.
use Rattle.month_words.proofs.Events.{add-said}
use borrow.Author.Rules.{rules}
use Rattle.month_words.proofs.add_in.Goals as goal

pub returns-then-side : goal.returns-then-side
returns-then-side c =
    add-said _ c.word-side.result c.word.result c.word-then-side.result c.word-then-side-2.result c.steps.result
    c.word-side.ensures c.word.ensures c.word-then-side.ensures c.steps.ensures c.word-then-side-2.ensures c.if-side.true
