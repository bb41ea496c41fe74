-- The loop's invariant: the cells before i are done.
use Prim.Native.Nat.{◌*◌}
use mathlib.Core.Path.{◌≡◌}
use mathlib.Core.List.{◌++◌}
use lib.ListN.{length, take, drop}
use Rattle.lent.specs.Words.{cells_words}
use Rattle.lent.proofs.put_cells.Given as goal

abbrev pub invariant-loop-i : goal.invariant-loop-i
invariant-loop-i l = (length l.words ≡ 1860) × (l.words ≡ cells_words (take l.i l.cells) ++ drop (10 * l.i) l.initial.words)
