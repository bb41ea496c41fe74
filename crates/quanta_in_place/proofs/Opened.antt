-- The words of a quantum that opens.
use Prim.Native.Nat.{ℕ, ◌+◌, ◌<◌}
use native.Mathlib.Numerals.{add-one}
use native.Mathlib.Omega.{arith}
use mathlib.Core.Path.{◌≡◌, refl, sym, ap, ◌∙◌}
use mathlib.Core.List.{List, [], ◌∷◌, ◌++◌}
use lib.ListN.{length, take, set, replicate, replicate-append-replicate}
use lib.Seq.{take-suc-set}
use Rattle.lists.specs.Lists.{filter}
use Rattle.best_quote.specs.Levels.{held, level_at, greatest, best_key, level_of}
use Rattle.order_side.specs.Slots.{column, side_of, kept_in}
use Rattle.order_table.specs.Table.{table_of}

-- a table with no orders is blank
pub blank_table : (minimum : ℕ) → replicate 512 0 ≡ table_of minimum []
unfolding table_of side_of column kept_in level_of level_at best_key greatest filter held
blank_table minimum = refl
