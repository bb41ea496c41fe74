-- `call_blocks::amendment_at` meets its contract: word by word.
use Rattle.call_blocks.proofs.amendment_at.Goals as goal

pub returns : goal.returns
returns c =
    λ i.
    record {
      t = c.millis_at-t.ensures i;
      id = c.word-id.ensures i;
      price = c.steps_at-price.ensures i;
      volume = c.contracts_at-volume.ensures i;
    }
