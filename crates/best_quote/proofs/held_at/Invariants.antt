-- The loop's invariant: what was added up is held at the key in the part of the columns that was passed.
use Prim.Native.Nat.{◌-◌, ◌≤◌}
use native.Mathlib.Omega.{arith}
use mathlib.Core.Path.{◌≡◌, refl, ◌∙◌}
use lib.Dec.{eqb}
use lib.ListN.{length, take}
use Rattle.best_quote.specs.Levels.{held}
use Rattle.best_quote.proofs.Loops.{held_next, held_fits, held_all}
use Rattle.best_quote.proofs.held_at.Given as goal

abbrev pub invariant-loop-i : goal.invariant-loop-i
invariant-loop-i l = (l.i ≤ length l.keys) × (l.at ≡ held (eqb l.key) (take l.i l.keys) (take l.i l.volumes))
