-- What refuses a cancel, then the ranges.
use mathlib.Core.Path.{ap, ◌∙◌}
use mathlib.Core.Bool.{Bool, not}
use Rattle.rules.specs.declared.Refusal.TheVariants.{PriceOrVolumeOutOfRange}
use Rattle.messages_in_place.specs.Internal.{first_of_two, number_where}
use Rattle.messages_in_place.proofs.Refusals.{amend_refusal}
use borrow.Author.Rules.{rules}
use Rattle.messages_in_place.proofs.refuses_amendment.Goals as goal

pub returns : goal.returns
returns c row sp es g e =
    c.first_of.ensures
    ∙ (λ i.
    first_of_two (c.refuses_cancel.ensures row sp es g e i)
    ((c.number_where.ensures ∙ ap (λ (b : Bool). number_where b PriceOrVolumeOutOfRange) (c.fails.ensures ∙ ap not c.in_range.ensures)) i))
    ∙ amend_refusal row es c.args.a
