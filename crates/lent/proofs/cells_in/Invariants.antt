-- The loop's invariant: the cells before i are done.
use mathlib.Core.Path.{◌≡◌}
use mathlib.Core.List.{List}
use lib.ListN.{length, take}
use Rattle.rules.specs.declared.Cell.{Cell}
use Rattle.lent.specs.Words.{cells_words}
use Rattle.lent.proofs.cells_in.Given as goal

abbrev pub invariant-loop-i : goal.invariant-loop-i
invariant-loop-i l = (length l.cells ≡ 186) × ((cs : List Cell) → l.words ≡ cells_words cs → take l.i l.cells ≡ take l.i cs)
