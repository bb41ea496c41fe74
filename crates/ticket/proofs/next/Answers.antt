-- One more, and 0 after the greatest number of 64 bits.
use Rattle.std.proofs.Common.{refl}
use Rattle.rules.specs.Changes.{following}
use Rattle.ticket.proofs.next.Goals as goal

pub returns : goal.returns
unfolding following
returns c = refl
