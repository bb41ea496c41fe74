-- The words of the calls, or 3.
use Rattle.quoting.proofs.Lists.{words_long, words_read_lem}
use mathlib.Core.List.{[]}
use borrow.Author.Rules.{rules}
use Rattle.quoting.proofs.quoting_calls_words.Goals as goal

pub returns-then-calls-ge17179869184 : goal.returns-then-calls-ge17179869184
returns-then-calls-ge17179869184 c =
    words_long c.args.calls.now [] c.refused.result c.if-calls-ge17179869184.true c.refused.ensures

pub returns : goal.returns
returns c =
    words_read_lem c.args.calls.now [] c.measure-list.result.words c.if-calls-ge17179869184.false c.measure-list.ensures.words
