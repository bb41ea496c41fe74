-- `fix_frame::tail_good` meets its contract: it is `tail_right`'s own test, byte by byte.
use mathlib.Core.Path.{refl}
use Rattle.fix_frame.specs.Frames.{tail_right}
use Rattle.fix_frame.proofs.tail_good.Goals as goal

pub returns : goal.returns
unfolding tail_right
returns c = refl
