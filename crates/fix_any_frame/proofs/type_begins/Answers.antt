-- `fix_any_frame::type_begins` meets its contract: it is `type_begins`' own test, byte by byte.
use mathlib.Core.Path.{refl}
use Rattle.fix_any_frame.specs.AnyFrames.{type_begins}
use Rattle.fix_any_frame.proofs.type_begins.Goals as goal

pub returns : goal.returns
unfolding type_begins
returns c = refl
