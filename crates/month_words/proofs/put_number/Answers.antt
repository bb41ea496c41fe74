-- By the number, refused or accepted.
use mathlib.Core.Path.{◌∙◌}
use Rattle.month_words.proofs.Events.{number_refused, number-accepted}
use borrow.Author.Rules.{rules}
use Rattle.month_words.proofs.put_number.Goals as goal

pub returns-then-n-gt0 : goal.returns-then-n-gt0
returns-then-n-gt0 c =
    c.put_refused.ensures ∙ number_refused c.args.n c.if-n-gt0.true

pub returns : goal.returns
returns c =
    c.put_accepted.ensures ∙ number-accepted c.args.n c.if-n-gt0.false
