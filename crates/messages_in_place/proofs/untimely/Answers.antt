-- The time and the end off the words.
use mathlib.Core.Path.{ap, ◌∙◌}
use mathlib.Core.Bool.{Bool}
use Rattle.rules.specs.declared.Refusal.TheVariants.{TimeBackwards, TimePastEnd}
use Rattle.messages_in_place.specs.Internal.{first_of_two, number_where}
use Rattle.messages_in_place.proofs.Refusals.{untimely_is}
use borrow.Author.Rules.{rules}
use Rattle.messages_in_place.proofs.untimely.Goals as goal

pub returns : goal.returns
returns c row sp es g e =
    c.first_of.ensures
    ∙ (λ i.
    first_of_two ((c.number_where.ensures ∙ ap (λ (b : Bool). number_where b TimeBackwards) c.below.ensures) i)
    ((c.number_where-2.ensures ∙ ap (λ (b : Bool). number_where b TimePastEnd) c.below-2.ensures) i))
    ∙ untimely_is c.args.words.now row sp es c.args.t.0 e
