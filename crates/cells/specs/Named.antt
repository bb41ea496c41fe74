-- The cell that a day, an expiry and a quantum name, among the month's 186.
use Rattle.std.specs.Prelude.{ℕ, List, Result, Ok, Err, if◌then◌else◌}
use Rattle.rules.specs.declared.Cell.{Cell}
use Rattle.rules.specs.declared.Refusal.{Refusal}
use Rattle.rules.specs.declared.Refusal.TheVariants.{ArgumentOutOfRange, CellBlank}
use Rattle.rules.specs.Cells.{good_cell, place_of, cell_at}

-- a filled one and its place, or why there is none
abbrev pub named_in : List Cell → ℕ → ℕ → ℕ → Result (ℕ × Cell) Refusal
named_in cells day expiry quantum =
    let c = cell_at cells (place_of day expiry quantum) in
    if good_cell day expiry quantum then (if c.filled then Ok (place_of day expiry quantum, c) else Err CellBlank) else Err ArgumentOutOfRange
