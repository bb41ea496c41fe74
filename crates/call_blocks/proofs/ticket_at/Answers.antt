-- `call_blocks::ticket_at` meets its contract: the amendment and the count after it.
use Rattle.call_blocks.proofs.ticket_at.Goals as goal

pub returns : goal.returns
returns c = λ i. record { amendment = c.amendment_at-amendment.ensures i; count = c.wide_at-count.ensures i }
