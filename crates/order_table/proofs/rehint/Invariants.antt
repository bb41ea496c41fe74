-- The orders from the place on and before i are noted.
use Prim.Native.Nat.{◌-◌, ◌≤◌}
use mathlib.Core.Path.{◌≡◌}
use Rattle.order_table.specs.Internal.{rehinted}
use Rattle.order_table.proofs.rehint.Given as goal

abbrev pub invariant-loop-i : goal.invariant-loop-i
invariant-loop-i l = (l.to ≤ 64) × (l.i - l.place ≤ l.to - l.place) × (l.hints ≡ rehinted l.table l.s l.place (l.i - l.place) l.initial.hints)
