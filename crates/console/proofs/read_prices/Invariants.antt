-- The prices before the place are read, and the rest is as it was. The measure is the number of prices left.
use Prim.Native.Nat.{ℕ, ◌+◌, ◌-◌, ◌*◌, ◌≤◌}
use mathlib.Core.Path.{◌≡◌}
use mathlib.Core.List.{List}
use lib.IntN.{ℤ}
use lib.ListN.{length}
use Rattle.rules.specs.Records.{signed_of, word_at}
use Rattle.console.proofs.Filling.{filled}
use Rattle.console.proofs.read_prices.Given as goal

-- the value that is due at a place
abbrev pub due : List ℕ → ℕ → ℕ → ℤ
due bytes from i = signed_of (word_at bytes (from + 4 * i))

abbrev pub invariant-loop-i : goal.invariant-loop-i
invariant-loop-i l = (l.i ≤ l.i-end) × (l.i-end ≡ length l.initial.prices) × (l.prices ≡ filled (due l.bytes l.from) l.initial.prices l.i)

abbrev pub decreases-loop-i : goal.decreases-loop-i
decreases-loop-i l = l.i-end - l.i
