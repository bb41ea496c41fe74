-- `call_blocks::told` meets its contract: as many words as tell it have come.
use lib.Dec.{leb}
use Rattle.call_blocks.specs.Pieces.{is_told}
use Rattle.call_blocks.proofs.told.Goals as goal

pub returns : goal.returns
unfolding is_told
returns c =
    λ i. leb (c.telling_words.ensures i) (c.count.ensures.0 i)
