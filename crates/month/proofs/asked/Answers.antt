-- The month as it was handed over.
use mathlib.Core.Path.{refl}
use Rattle.month.proofs.asked.Goals as goal

pub returns : goal.returns
returns c = (refl, refl)
