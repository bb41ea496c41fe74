-- By its test.
use Rattle.std.specs.Prelude.{if◌then◌else◌}
use Prim.Native.Nat.{◌≤◌}
use native.Mathlib.Omega.{arith}
use mathlib.Core.Path.{◌≡◌, refl}
use mathlib.Core.Bool.{Bool, true, false}
use mir.Val.{bool_byte}
use lib.Dec.{ltb}
use borrow.Author.Rules.{rules}
use Rattle.small_side.proofs.above.Goals as goal

-- By its test.
as_number : (b : Bool) → (bool_byte b ≡ (if b then 1 else 0)) × (bool_byte b ≤ 1)
as_number true = (refl, omega arith)
as_number false = (refl, omega arith)

pub returns : goal.returns
returns c = as_number (ltb c.args.other c.args.key)
