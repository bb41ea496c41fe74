-- `call_blocks::strike_at` meets its contract: word by word.
use Rattle.call_blocks.proofs.strike_at.Goals as goal

pub returns : goal.returns
returns c =
    λ i.
    record {
      a = c.word-a.ensures i;
      difference = c.word-difference.ensures i;
      days = c.word-days.ensures i;
      b = c.word-b.ensures i;
    }
