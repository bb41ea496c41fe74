-- `fix_frame::type_good` meets its contract: it is `type_right`'s own test, byte by byte.
use mathlib.Core.Path.{refl}
use Rattle.fix_frame.specs.Frames.{type_right}
use Rattle.fix_frame.proofs.type_good.Goals as goal

pub returns : goal.returns
unfolding type_right
returns c = refl
