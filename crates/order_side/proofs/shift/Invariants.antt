-- Those after the place and before i + 1 have moved up by one.
use mathlib.Core.Path.{◌≡◌}
use Rattle.order_side.proofs.Shifting.{partly}
use Rattle.order_side.proofs.shift.Given as goal

abbrev pub invariant-loop-i : goal.invariant-loop-i
invariant-loop-i l = l.column ≡ partly l.place l.i l.initial.column
