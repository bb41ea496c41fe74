-- By whether there is a quote.
use mathlib.Core.Path.{sym, ap, ◌∙◌}
use Rattle.answer_words.specs.Words.{quote_word}
use Rattle.answer_words.proofs.price_word.Goals as goal

pub returns-in-Some : goal.returns-in-Some
returns-in-Some c = c.from_steps.ensures ∙ ap quote_word (sym c.in-Some.is)
