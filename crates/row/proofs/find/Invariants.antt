-- The invariant: no row passed is for that expiry and quantum.
use Prim.Native.Nat.{ℕ, ◌<◌}
use mathlib.Core.Path.{◌≡◌}
use mathlib.Core.Bool.{false}
use Rattle.rules.specs.Choosing.{row_words, is_for}
use Rattle.row.proofs.find.Given as goal

abbrev pub invariant-loop-k : goal.invariant-loop-k
invariant-loop-k l = (j : ℕ) → j < l.k → is_for l.expiry l.quantum (row_words l.table j) ≡ false
