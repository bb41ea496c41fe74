-- `fix_frame::head_good` meets its contract: it is `head_right`'s own test, byte by byte.
use mathlib.Core.Path.{refl}
use Rattle.fix_frame.specs.Frames.{head_right}
use Rattle.fix_frame.proofs.head_good.Goals as goal

pub returns : goal.returns
unfolding head_right
returns c = refl
