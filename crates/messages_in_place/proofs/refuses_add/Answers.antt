-- 10 and 12; the time is the cancel's, and there is room.
use mathlib.Core.Path.{ap, ◌∙◌}
use mathlib.Core.Bool.{Bool, not, ◌&&◌}
use Rattle.rules.specs.declared.Refusal.TheVariants.{IdLive, PriceOrVolumeOutOfRange}
use Rattle.messages_in_place.specs.Internal.{first_of_two, number_where}
use Rattle.messages_in_place.proofs.Refusals.{add-refusal}
use borrow.Author.Rules.{rules}
use Rattle.messages_in_place.proofs.refuses_add.Goals as goal

pub returns : goal.returns
returns c row sp es g e taken =
    c.first_of.ensures
    ∙ (λ i.
    first_of_two ((c.number_where.ensures ∙ ap (λ (b : Bool). number_where b IdLive) (c.both.ensures ∙ (λ j. c.differ.ensures j && c.has_order.ensures row sp es g e j))) i)
    ((c.number_where-2.ensures ∙ ap (λ (b : Bool). number_where b PriceOrVolumeOutOfRange) (c.fails.ensures ∙ ap not c.in_range.ensures)) i))
    ∙ add-refusal row es g c.args.t c.args.orig taken c.args.order
