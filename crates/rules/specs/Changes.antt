-- Document 01, "Afresh": the book after an accepted call.
use Rattle.std.specs.Prelude.{ℕ, zero, suc, ◌+◌, ◌%◌, List, [], ◌∷◌, ◌++◌, true, set}
use Rattle.rules.specs.declared.Opening.{Opening}
use Rattle.rules.specs.declared.Kopecks.{Kopecks}
use Rattle.rules.specs.declared.Row.{Row}
use Rattle.rules.specs.declared.Cell.{Cell}
use Rattle.rules.specs.declared.Event.{Event}
use Rattle.rules.specs.Units.{millis}
use Rattle.rules.specs.Rows.{row_of}
use Rattle.rules.specs.Cells.{blank_cell, place_of, cell_at}
use Rattle.rules.specs.Kept.{kept_below}
use Rattle.rules.specs.Lapses.{lapses_below}
use Rattle.rules.specs.MessageCalls.{events_of}
use Rattle.rules.specs.Calls.{Call, Running, Book, counts, amend_of, Open, Send, Message, Ask, Commit, Close, Drop, Charge, Withdraw, Look, Report, Outlook, Idle, Quoting}

-- an event "goes to the end of that list"; a message's one or two go there in turn
abbrev pub noted_all : Running → List Event → Running
noted_all Idle es = Idle
noted_all (Quoting place row opening events) es = Quoting place row opening (events ++ es)

abbrev pub noted : Running → Event → Running
noted running e = noted_all running (e ∷ [])

-- "Close counts K over that list, millisecond by millisecond below L, puts K, L, p, A and P into the cell"; document 02, W1: the quantum "and
-- each cell carry limit and lapse count"
abbrev pub closed_cell : Row → Opening → List Event → Kopecks → Kopecks → Cell
closed_cell row opening events active passive =
    record {
      filled = true;
      kept = millis (kept_below row opening.spread events row.length.0);
      length = row.length;
      share = row.share;
      allowed = opening.allowed;
      lapses = lapses_below row opening.spread events row.length.0;
      active = active;
      passive = passive;
    }

abbrev pub closed : Running → Kopecks → Kopecks → List Cell → List Cell
closed Idle active passive cells = cells
closed (Quoting place row opening events) active passive cells = set cells place (closed_cell row opening events active passive)

-- "new charges in place of a filled cell's old ones"
abbrev pub charged : Kopecks → Kopecks → Cell → Cell
charged active passive c =
    record {
      filled = c.filled;
      kept = c.kept;
      length = c.length;
      share = c.share;
      allowed = c.allowed;
      lapses = c.lapses;
      active = active;
      passive = passive;
    }

-- document 02, W5: a "count, modulo 2^64"
unfoldable pub following : ℕ → ℕ
following count = (count + 1) % 18446744073709551616

-- the count after so many more accepted calls
abbrev pub count_after : ℕ → ℕ → ℕ
count_after zero count = count
count_after (suc n) count = count_after n (following count)

-- the quantum and the cells after an accepted call
abbrev pub quantum_and_cells : Book → Call → Running × List Cell
quantum_and_cells b (Open words day opening) =
    (Quoting (place_of day (row_of words).expiry (row_of words).quantum) (row_of words) opening [], b.cells)
quantum_and_cells b (Send e) = (noted b.running e, b.cells)
quantum_and_cells b (Message start bytes) = (noted_all b.running (events_of start bytes), b.cells)
quantum_and_cells b (Ask a) = (b.running, b.cells)
quantum_and_cells b (Commit a ticket) = (noted b.running (amend_of a), b.cells)
quantum_and_cells b (Close active passive) = (Idle, closed b.running active passive b.cells)
quantum_and_cells b Drop = (Idle, b.cells)
quantum_and_cells b (Charge day expiry quantum active passive) =
    let place = place_of day expiry quantum in
    (b.running, set b.cells place (charged active passive (cell_at b.cells place)))
quantum_and_cells b (Withdraw day expiry quantum) = (b.running, set b.cells (place_of day expiry quantum) blank_cell)
quantum_and_cells b (Look day expiry quantum) = (b.running, b.cells)
quantum_and_cells b Report = (b.running, b.cells)
quantum_and_cells b Outlook = (b.running, b.cells)

unfoldable pub changed : Book → Call → Book
changed b c =
    record {
      running = (quantum_and_cells b c).0;
      cells = (quantum_and_cells b c).1;
      count = count_after (counts c) b.count;
    }
