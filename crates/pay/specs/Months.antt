-- The cells that a month's fee is worked out from.
use Rattle.std.specs.Prelude.{◌≡◌, List, true, length}
use Rattle.std.proofs.Common.{sym, ap, ◌∙◌}
use mathlib.Core.List.{Memᴰ}
use Rattle.rules.specs.declared.Cell.{Cell}
use Rattle.rules.specs.Terms.{paper}
use Rattle.rules.specs.Bounds.{CellBounds}

-- what holds cells of which every filled one is in its bounds: a month always does
pub record HoldsGood (holds : List Cell → Type 0) : Type 0 where
  pub cells : List Cell
  pub is : holds cells
  pub good : (c : Cell) → Memᴰ c cells → c.filled ≡ true → CellBounds paper c

-- an array has as many cells as it holds
pub many_of : (array cells : List Cell) → length array ≡ 186 → array ≡ cells → length cells ≡ 186
many_of array cells many is = ap length (sym is) ∙ many
