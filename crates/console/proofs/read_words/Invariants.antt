-- The words before the place are read, and the rest is as it was. The measure is the number of words left.
use Prim.Native.Nat.{ℕ, ◌+◌, ◌-◌, ◌*◌, ◌≤◌}
use mathlib.Core.Path.{◌≡◌}
use mathlib.Core.List.{List}
use lib.ListN.{length}
use Rattle.rules.specs.Records.{word_at}
use Rattle.console.proofs.Filling.{filled}
use Rattle.console.proofs.read_words.Given as goal

-- the value that is due at a place
abbrev pub due : List ℕ → ℕ → ℕ → ℕ
due bytes from i = word_at bytes (from + 4 * i)

abbrev pub invariant-loop-i : goal.invariant-loop-i
invariant-loop-i l = (l.i ≤ l.i-end) × (l.i-end ≡ length l.initial.words) × (l.words ≡ filled (due l.bytes l.from) l.initial.words l.i)

abbrev pub decreases-loop-i : goal.decreases-loop-i
decreases-loop-i l = l.i-end - l.i
