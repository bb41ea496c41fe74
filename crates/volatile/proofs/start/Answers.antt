-- No day yet.
use mathlib.Core.Path.{refl}
use Rattle.volatile.specs.Internal.{fresh}
use Rattle.volatile.proofs.start.Goals as goal

pub returns : goal.returns
unfolding fresh
returns c = refl
