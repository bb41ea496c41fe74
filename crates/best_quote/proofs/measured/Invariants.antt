-- `best_quote::measured` meets its contract. The loop's invariant: what was added up is held at better keys, and at it, in the part of the
use Rattle.std.specs.Prelude.{if◌then◌else◌}
use Prim.Native.Nat.{ℕ, ◌+◌, ◌-◌, ◌≤◌, ◌<◌}
use native.Mathlib.Omega.{arith}
use mathlib.Core.Path.{◌≡◌, refl, ◌∙◌}
use mathlib.Core.Bool.{Bool}
use lib.Dec.{ltb, eqb}
use lib.ListN.{length, get_or, take}
use Rattle.best_quote.specs.Levels.{held, level_at}
use Rattle.best_quote.proofs.Loops.{held_next, held_fits, held_all}
use Rattle.best_quote.proofs.measured.Given as goal

abbrev pub invariant-loop-i : goal.invariant-loop-i
invariant-loop-i l =
    (l.i ≤ length l.keys) × (l.before ≡ held (ltb l.key) (take l.i l.keys) (take l.i l.volumes)) × (l.at ≡ held (eqb l.key) (take l.i l.keys) (take l.i l.volumes))
