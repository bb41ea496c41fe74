-- Both tests.
use mathlib.Core.Path.{◌∙◌}
use mathlib.Core.Bool.{◌&&◌}
use borrow.Author.Rules.{rules}
use Rattle.messages_in_place.proofs.in_range.Goals as goal

pub returns : goal.returns
returns c =
    c.both.ensures ∙ (λ i. c.price.ensures i && c.volume.ensures i)
