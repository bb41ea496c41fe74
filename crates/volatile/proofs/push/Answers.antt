-- The oldest is within the sum, so nothing wraps.
use mathlib.Core.Path.{refl}
use Rattle.volatile.specs.Internal.{pushed}
use Rattle.volatile.proofs.push.Goals as goal

pub returns : goal.returns
unfolding pushed
returns c = refl
