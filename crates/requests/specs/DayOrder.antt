-- Document 02, W9: "two lists of whole quanta on fresh months, each from its open to its close, none refused, no drop, charge or withdraw, one a
-- rearrangement of the other". proofs/DayOrder shows that the book is then the same.
use Rattle.std.specs.Prelude.{ℕ, ◌<◌, ◌≡◌, Bool, true, false, set}
use mathlib.Core.List.{List, [], ◌∷◌, ◌++◌, map, Permᴰ}
use Rattle.rules.specs.declared.Opening.{Opening}
use Rattle.rules.specs.declared.Kopecks.{Kopecks}
use Rattle.rules.specs.declared.Cell.{Cell}
use Rattle.rules.specs.declared.Event.{Event}
use Rattle.rules.specs.declared.Amendment.{Amendment}
use Rattle.rules.specs.declared.Ticket.{Ticket}
use Rattle.lists.specs.Lists.{sum, All}
use Rattle.rules.specs.Terms.{Terms}
use Rattle.rules.specs.Rows.{row_of}
use Rattle.rules.specs.Cells.{place_of, cell_at}
use Rattle.rules.specs.Pay.{all_failures, fee}
use Rattle.rules.specs.MessageCalls as M
use Rattle.rules.specs.Calls.{Call, Open, Send, Message, Ask, Commit, Close, Look, Report, Outlook, counts, Idle, Book, fresh_book, amend_of}
use Rattle.rules.specs.Changes.{closed_cell, count_after}
use Rattle.rules.specs.Book.{run, after}
use Rattle.rules.specs.Histories.{NoneRefused}

-- ---- whole quanta

-- a call that neither opens nor closes a quantum nor touches a cell: an event, message, ask, commit, look, report or outlook; "no drop,
-- charge or withdraw"
pub data Inside : Type 0 where
  event : Event → Inside
  -- document 02, W11: the quantum's start, and the message
  message : List ℕ → List ℕ → Inside
  ask : Amendment → Inside
  commit : Amendment → Ticket → Inside
  -- day, expiry, quantum
  look : ℕ → ℕ → ℕ → Inside
  report : Inside
  outlook : Inside

abbrev pub call_of : Inside → Call
call_of (event e) = Send e
call_of (message start bytes) = Message start bytes
call_of (ask a) = Ask a
call_of (commit a ticket) = Commit a ticket
call_of (look day expiry quantum) = Look day expiry quantum
call_of report = Report
call_of outlook = Outlook

-- "from its open to its close": what its open names, the calls inside, and its close's A and P
pub record Whole : Type 0 where
  pub words : List ℕ
  pub day : ℕ
  pub opening : Opening
  pub inside : List Inside
  pub active : Kopecks
  pub passive : Kopecks

abbrev pub calls_in : Whole → List Call
calls_in q = Open q.words q.day q.opening ∷ (map call_of q.inside ++ (Close q.active q.passive ∷ []))

-- a list of quanta as a list of calls
unfoldable pub joined : List Whole → List Call
joined [] = []
joined (q ∷ qs) = calls_in q ++ joined qs

-- ---- what a whole quantum does to the book

-- the place that its open names
abbrev pub place_in : Whole → ℕ
place_in q = place_of q.day (row_of q.words).expiry (row_of q.words).quantum

-- the events that its calls add to the quantum's: a commit "does exactly that amend"
abbrev pub events_of : Inside → List Event
events_of (event e) = e ∷ []
events_of (message start bytes) = M.events_of start bytes
events_of (ask a) = []
events_of (commit a ticket) = amend_of a ∷ []
events_of (look day expiry quantum) = []
events_of report = []
events_of outlook = []

unfoldable pub events_in : List Inside → List Event
events_in [] = []
events_in (c ∷ cs) = events_of c ++ events_in cs

-- the cell that its close puts down, worked out from its calls alone
abbrev pub cell_in : Whole → Cell
cell_in q = closed_cell (row_of q.words) q.opening (events_in q.inside) q.active q.passive

-- how many of its calls W5's count counts
abbrev pub counted_in : Whole → ℕ
counted_in q = sum (map counts (calls_in q))

-- the book with that cell in that place and those calls counted, no quantum open
abbrev pub filed_by : Book → Whole → Book
filed_by b q =
    record {
      running = Idle;
      cells = set b.cells (place_in q) (cell_in q);
      count = count_after (counted_in q) b.count;
    }

-- The heart: a whole quantum that is not refused puts one cell, worked out from its own calls alone, into the place that its open
-- names, which was blank, whatever came before.
pub record Filed (terms : Terms) (b : Book) (q : Whole) : Type 0 where
  pub inside : place_in q < 186
  pub blank : (cell_at b.cells (place_in q)).filled ≡ false
  pub filled : (cell_in q).filled ≡ true
  pub book : run terms b (calls_in q) ≡ filed_by b q

-- ---- the theorem

-- "Fee, failure counts and all cells must be equal": the two books are the same, W5's count included, and no quantum is open
pub record SameFilled (terms : Terms) (first second : Book) : Type 0 where
  pub book : first ≡ second
  pub idle : first.running ≡ Idle
  pub cells : first.cells ≡ second.cells
  pub failures : all_failures terms first.cells ≡ all_failures terms second.cells
  pub fee : fee terms first.cells ≡ fee terms second.cells

-- "one a rearrangement of the other", by the toolchain's permutations, and none of the calls refused in either order
abbrev pub Rearranged : Terms → Type 0
Rearranged terms = (first second : List Whole) → NoneRefused terms fresh_book (joined first) → Permᴰ first second
    → NoneRefused terms fresh_book (joined second) → SameFilled terms (after terms (joined first)) (after terms (joined second))

-- a commit's ticket holds a count, and a look may name a cell that another order fills later; with neither, the other list is not refused
-- either
abbrev pub anywhere : Inside → Bool
anywhere (event e) = true
anywhere (message start bytes) = true
anywhere (ask a) = true
anywhere (commit a ticket) = false
anywhere (look day expiry quantum) = false
anywhere report = true
anywhere outlook = true

abbrev pub Anywhere : Whole → Type 0
Anywhere q = All (λ (c : Inside). anywhere c ≡ true) q.inside

abbrev pub AcceptedToo : Terms → Type 0
AcceptedToo terms = (first second : List Whole) → NoneRefused terms fresh_book (joined first) → Permᴰ first second
    → All Anywhere first → NoneRefused terms fresh_book (joined second)
