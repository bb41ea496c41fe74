-- The line's weight is that of f: the card's shares are below 800.
use Rattle.std.proofs.Common.{refl, ◌∙◌}
use Rattle.weights.proofs.Card.{found, on_card_most}
use Rattle.weights.proofs.look_up.Goals as goal

pub returns : goal.returns
returns c =
    c.from.ensures ∙ c.at.ensures ∙ found c.args.f c.args.share c.min-line.result c.args.share c.min-line.ensures refl (on_card_most c.args.share c.requires)
