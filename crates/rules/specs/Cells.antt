-- Document 01, "A row and a month": the month's cells.
use Rattle.std.specs.Prelude.{ℕ, ◌+◌, ◌-◌, ◌*◌, List, map, Bool, false, ◌&&◌, get_or, replicate}
use Rattle.rules.specs.declared.Cell.{Cell}
use Rattle.lists.specs.Lists.{within, below}
use Rattle.rules.specs.Units.{millis, kopecks}
use Rattle.rules.specs.Rows.{good_expiry, good_quantum}

abbrev pub blank_cell : Cell
blank_cell =
    record {
      filled = false;
      kept = millis 0;
      length = millis 0;
      share = 0;
      allowed = 0;
      lapses = 0;
      active = kopecks 0;
      passive = kopecks 0;
    }

-- "186 cells, one for each day 1 to 31, expiry and quantum, all blank at first"
abbrev pub blank_cells : List Cell
blank_cells = replicate 186 blank_cell

-- a day, an expiry and a quantum that name a cell
abbrev pub good_cell : ℕ → ℕ → ℕ → Bool
good_cell day expiry quantum = within 1 31 day && good_expiry expiry && good_quantum quantum

-- the place of the named cell among the 186: by day, then expiry, then quantum
abbrev pub place_of : ℕ → ℕ → ℕ → ℕ
place_of day expiry quantum = (day - 1) * 6 + ((expiry - 1) * 3 + quantum)

abbrev pub cell_at : List Cell → ℕ → Cell
cell_at cells place = get_or cells place blank_cell

-- "A series is the cells of one expiry and quantum": those of the 31 days
unfoldable pub series : ℕ → ℕ → List Cell → List Cell
series expiry quantum cells = map (λ (d : ℕ). cell_at cells (place_of (d + 1) expiry quantum)) (below 31)
