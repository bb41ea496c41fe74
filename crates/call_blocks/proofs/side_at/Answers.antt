-- `call_blocks::side_at` meets its contract: the side of the word.
use mathlib.Core.Path.{ap, ◌∙◌}
use Rattle.words.specs.Sides.{side_by}
use Rattle.call_blocks.proofs.side_at.Goals as goal

pub returns : goal.returns
returns c = c.to_side.ensures ∙ ap side_by c.word.ensures
