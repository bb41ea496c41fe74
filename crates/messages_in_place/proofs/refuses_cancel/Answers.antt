-- The causes in the order of their numbers.
use mathlib.Core.Path.{ap, ◌∙◌}
use mathlib.Core.Bool.{Bool, not}
use Rattle.rules.specs.declared.Refusal.TheVariants.{IdNotLive}
use Rattle.messages_in_place.specs.Internal.{first_of_two, number_where}
use Rattle.messages_in_place.proofs.Refusals.{cancel_refusal}
use borrow.Author.Rules.{rules}
use Rattle.messages_in_place.proofs.refuses_cancel.Goals as goal

pub returns : goal.returns
returns c row sp es g e =
    c.first_of.ensures
    ∙ (λ i.
    first_of_two (c.untimely.ensures row sp es g e i)
    ((c.number_where.ensures ∙ ap (λ (b : Bool). number_where b IdNotLive) (c.fails.ensures ∙ ap not (c.has_order.ensures row sp es g e))) i))
    ∙ cancel_refusal row es c.args.t c.args.id
