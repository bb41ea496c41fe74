-- Before the place each word is as it was, and those from it on and before i + 1 have moved up by one.
use Prim.Native.Nat.{max}
use mathlib.Core.Path.{◌≡◌}
use Rattle.order_side.proofs.Shifting.{partly}
use Rattle.order_arrivals.proofs.close_up.Given as goal

abbrev pub invariant-loop-i : goal.invariant-loop-i
invariant-loop-i l = l.ids ≡ partly l.place (max l.place l.i) l.initial.ids
