-- The three shares are on the card.
use mathlib.Core.Path.{refl}
use Rattle.lists.specs.Lists.{any}
use Rattle.weights.specs.Card.{on_card}
use Rattle.card.proofs.main.Goals as goal

pub look_up-by_600-requires : goal.look_up-by_600-requires
unfolding on_card any
look_up-by_600-requires c = refl

pub look_up-by_700-requires : goal.look_up-by_700-requires
unfolding on_card any
look_up-by_700-requires c = refl

pub look_up-by_750-requires : goal.look_up-by_750-requires
unfolding on_card any
look_up-by_750-requires c = refl
