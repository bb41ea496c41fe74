-- The tests are those of the definition.
use mathlib.Core.Path.{refl}
use Rattle.price_keys.specs.Widest.{keys_keep}
use Rattle.price_keys.proofs.keys_keep.Goals as goal

pub returns : goal.returns
unfolding keys_keep
returns c = refl
