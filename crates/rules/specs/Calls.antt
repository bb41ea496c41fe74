-- Document 01, "A row and a month" and "Afresh": the calls, and what the plain book holds.
use Rattle.std.specs.Prelude.{ℕ, List, [], ◌∷◌, Bool, true, false, length}
use Rattle.rules.specs.declared.Opening.{Opening}
use Rattle.rules.specs.declared.Kopecks.{Kopecks}
use Rattle.rules.specs.declared.Row.{Row}
use Rattle.rules.specs.declared.Cell.{Cell}
use Rattle.rules.specs.declared.Event.{Event}
use Rattle.rules.specs.declared.Event.TheVariants.{Amend}
use Rattle.rules.specs.declared.Amendment.{Amendment}
use Rattle.rules.specs.declared.Ticket.{Ticket}
use Rattle.rules.specs.Cells.{blank_cells}
use Rattle.rules.specs.MessageCalls.{events_of}

-- The calls, "each by its name and its arguments other than the month". Send is add, amend, cancel, deal or tick: an event.
pub data Call : Type 0 where
  -- the row's words, the day, and what else open is given: SP or, by document 02, W4, a strike's four numbers in its place, and, by W1,
  -- the lapse limit
  Open : List ℕ → ℕ → Opening → Call
  Send : Event → Call
  -- document 02, W11: the quantum's start and a message, both as bytes; "the book judges each itself"
  Message : List ℕ → List ℕ → Call
  -- document 02, W5: asking names an amendment; "Committing names the amendment again and gives the ticket"
  Ask : Amendment → Call
  Commit : Amendment → Ticket → Call
  -- A, P
  Close : Kopecks → Kopecks → Call
  Drop : Call
  -- day, expiry, quantum, A, P
  Charge : ℕ → ℕ → ℕ → Kopecks → Kopecks → Call
  -- day, expiry, quantum
  Withdraw : ℕ → ℕ → ℕ → Call
  Look : ℕ → ℕ → ℕ → Call
  Report : Call
  -- no call of the papers: the state of the open quantum, and whether the maker may rest (Outlook)
  Outlook : Call

-- the rows that a call names
abbrev pub rows_in : Call → List (List ℕ)
rows_in (Open words day opening) = words ∷ []
rows_in (Send e) = []
rows_in (Message start bytes) = []
rows_in (Ask a) = []
rows_in (Commit a ticket) = []
rows_in (Close active passive) = []
rows_in Drop = []
rows_in (Charge day expiry quantum active passive) = []
rows_in (Withdraw day expiry quantum) = []
rows_in (Look day expiry quantum) = []
rows_in Report = []
rows_in Outlook = []

-- the charges that it names
abbrev pub charges_in : Call → List Kopecks
charges_in (Open words day opening) = []
charges_in (Send e) = []
charges_in (Message start bytes) = []
charges_in (Ask a) = []
charges_in (Commit a ticket) = []
charges_in (Close active passive) = active ∷ passive ∷ []
charges_in Drop = []
charges_in (Charge day expiry quantum active passive) = active ∷ passive ∷ []
charges_in (Withdraw day expiry quantum) = []
charges_in (Look day expiry quantum) = []
charges_in Report = []
charges_in Outlook = []

-- the same call with each of its rows turned into another
abbrev pub map_rows : (List ℕ → List ℕ) → Call → Call
map_rows f (Open words day opening) = Open (f words) day opening
map_rows f (Send e) = Send e
map_rows f (Message start bytes) = Message start bytes
map_rows f (Ask a) = Ask a
map_rows f (Commit a ticket) = Commit a ticket
map_rows f (Close active passive) = Close active passive
map_rows f Drop = Drop
map_rows f (Charge day expiry quantum active passive) = Charge day expiry quantum active passive
map_rows f (Withdraw day expiry quantum) = Withdraw day expiry quantum
map_rows f (Look day expiry quantum) = Look day expiry quantum
map_rows f Report = Report
map_rows f Outlook = Outlook

-- document 02, W5: "accepted calls other than asks, looks and reports" are counted, and outlooks are not, which alter nothing either; by W11
-- an accepted message "stands there as those calls", one or two
abbrev pub counts : Call → ℕ
counts (Open words day opening) = 1
counts (Send e) = 1
counts (Message start bytes) = length (events_of start bytes)
counts (Ask a) = 0
counts (Commit a ticket) = 1
counts (Close active passive) = 1
counts Drop = 1
counts (Charge day expiry quantum active passive) = 1
counts (Withdraw day expiry quantum) = 1
counts (Look day expiry quantum) = 0
counts Report = 0
counts Outlook = 0

-- "Open notes cell, row and SP, with an empty list of events": no quantum, or the open one's cell, row, what else open was given, and the
-- accepted events
pub data Running : Type 0 where
  Idle : Running
  Quoting : ℕ → Row → Opening → List Event → Running

pub record Book : Type 0 where
  pub running : Running
  pub cells : List Cell
  -- document 02, W5: "the book counts its accepted calls likewise"
  pub count : ℕ

-- "At first it has no quantum open and 186 blank cells."
unfoldable pub fresh_book : Book
fresh_book = record { running = Idle; cells = blank_cells; count = 0 }

abbrev pub is_open : Running → Bool
is_open Idle = false
is_open (Quoting place row opening events) = true

-- document 02, W5: "the refusal that amend would give", and "exactly that amend"
abbrev pub amend_of : Amendment → Event
amend_of a = Amend a.t a.id a.price a.volume
