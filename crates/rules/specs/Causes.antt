-- Document 01, "Refused calls": the causes of a refusal, each with its number, and the first that applies.
use Rattle.std.specs.Prelude.{ℕ, List, [], ◌∷◌, ◌++◌, Bool, true, false, not, ◌&&◌, ℤ, leb, ltb, eqb, length, if◌then◌else◌}
use Rattle.std.specs.Int.Signed.{le_z}
use Rattle.rules.specs.declared.SpreadRule.{SpreadRule}
use Rattle.rules.specs.declared.SpreadRule.TheVariants.{Settled, OfStrike}
use Rattle.rules.specs.declared.Kopecks.{Kopecks}
use Rattle.rules.specs.declared.Order.{Order}
use Rattle.rules.specs.declared.Row.{Row}
use Rattle.rules.specs.declared.Event.{Event}
use Rattle.rules.specs.declared.Event.TheVariants.{Add, Amend, Cancel, Deal, Tick}
use Rattle.rules.specs.declared.Amendment.{Amendment}
use Rattle.rules.specs.declared.Ticket.{Ticket}
use Rattle.lists.specs.Lists.{within, any}
use Rattle.rules.specs.Terms.{Terms}
use Rattle.rules.specs.Units.{good_price, good_volume, good_charge}
use Rattle.rules.specs.Rows.{row_of, good_row_for}
use Rattle.rules.specs.Cells.{good_cell, place_of, cell_at}
use Rattle.rules.specs.Orders.{has_id, is_live, left, live, time_of, present}
use Rattle.rules.specs.Quotes.{same}
use Rattle.rules.specs.Strikes.{good_strike}
use Rattle.rules.specs.Lapses.{good_lapse_limit}
use Rattle.rules.specs.Answers.{Outcome, accepted, refused, outcome_by}
use Rattle.rules.specs.Dates.{Moment, before, at, late}
use Rattle.rules.specs.Messages as M
use Rattle.rules.specs.MessageCalls.{message_in, events_at}
use Rattle.rules.specs.Calls.{Call, Running, Book, is_open, amend_of, Open, Send, Message, Ask, Commit, Close, Drop, Charge, Withdraw, Look, Report, Outlook, Idle, Quoting}

pub record Cause : Type 0 where
  pub number : ℕ
  pub applies : Bool

abbrev pub cause : ℕ → Bool → Cause
cause n b = record { number = n; applies = b }

-- "If any applies, the call is refused by the lowest number": the number of the first that applies, 0 where none does. The numbers of each list
-- ascend (Lowest); a message's causes (document 02, W11) are in the order in which it is checked, 20 and 21 before 7
unfoldable pub first_number : List Cause → ℕ
first_number [] = 0
first_number (c ∷ cs) = let rest = first_number cs in if c.applies then c.number else rest

-- what the trader can cause: 10 add with a live id; 11 amend, cancel or deal on an id not live; 12 price or volume outside its range;
-- 13 add with 64 live; 14 deal above what is left of the order
abbrev pub trader_causes : List Order → Event → List Cause
trader_causes orders (Add t id side price volume) =
    cause 10 (is_live id orders)
    ∷ cause 12 (not (good_price price.0 && good_volume volume.0))
    ∷ cause 13 (leb 64 (length orders))
    ∷ []
trader_causes orders (Amend t id price volume) =
    cause 11 (not (is_live id orders)) ∷ cause 12 (not (good_price price.0 && good_volume volume.0)) ∷ []
trader_causes orders (Cancel t id) = cause 11 (not (is_live id orders)) ∷ []
trader_causes orders (Deal t id volume) =
    cause 11 (not (is_live id orders)) ∷ cause 12 (not (good_volume volume.0)) ∷ cause 14 (ltb (left id orders) volume.0) ∷ []
trader_causes orders (Tick t) = []

-- of an event, with a quantum of that row open and these events accepted: 8 t below the last accepted time; 9 t above L
unfoldable pub event_causes : Row → List Event → Event → List Cause
event_causes row events e =
    cause 8 (ltb (time_of e) (present events))
    ∷ cause 9 (ltb row.length.0 (time_of e))
    ∷ trader_causes (live events) e

-- the number that refuses the event, 0 where it is accepted
unfoldable pub event_refusal : Row → List Event → Event → ℕ
event_refusal row events e = first_number (event_causes row events e)

abbrev pub send_causes : Running → Event → List Cause
send_causes Idle e = cause 7 true ∷ []
send_causes (Quoting place row opening events) e = event_causes row events e

-- document 02, W11: "a G whose 54 is not the side of the live order named by 41 is code 21"; with no such order it is not
abbrev pub other_side : List Order → M.Message Moment → Bool
other_side orders (M.new_order id side volume price time) = false
other_side orders (M.cancel_order id orig time) = false
other_side orders (M.replace_order id orig side volume price time) = any (λ (o : Order). has_id orig o && not (same side o.side)) orders

-- with no quantum open it is no cause
abbrev pub other_side_in : Running → M.Message Moment → Bool
other_side_in Idle m = false
other_side_in (Quoting place row opening events) m = other_side (live events) m

-- "the causes of its one or two calls in turn": each event's on the list with those before it
unfoldable pub causes_in_turn : Row → List Event → List Event → List Cause
causes_in_turn row events [] = []
causes_in_turn row events (e ∷ es) = event_causes row events e ++ causes_in_turn row (events ++ (e ∷ [])) es

-- "one before [the quantum's start] gets refusal 8, one over 32 bits of milliseconds later refusal 9"
abbrev pub causes_by : Row → List Event → M.Message Moment → Moment → List Cause
causes_by row events m before = cause 8 true ∷ []
causes_by row events m (at t) = causes_in_turn row events (events_at m t)
causes_by row events m late = cause 9 true ∷ []

-- with none open 7, whatever the time
abbrev pub call_causes : Running → M.Message Moment → Moment → List Cause
call_causes Idle m t = cause 7 true ∷ []
call_causes (Quoting place row opening events) m t = causes_by row events m t

-- "20 and 21 first, then the causes of its one or two calls in turn"
abbrev pub message_causes : Running → Outcome (M.Message Moment) → List Cause
message_causes running (refused n) = cause n true ∷ []
message_causes running (accepted m) = cause 21 (other_side_in running m) ∷ call_causes running m (M.time_of m)

-- neither price is below the other
abbrev pub same_price : ℤ → ℤ → Bool
same_price p q = le_z p q && le_z q p

abbrev pub same_amendment : Amendment → Amendment → Bool
same_amendment a b =
    eqb a.t.0 b.t.0 && eqb a.id b.id && same_price a.price.0 b.price.0 && eqb a.volume.0 b.volume.0

-- a ticket whose amendment and count are the present ones
unfoldable pub good_ticket : Ticket → Amendment → ℕ → Bool
good_ticket ticket a count = same_amendment ticket.amendment a && eqb ticket.count count

-- "SP, the settlement price, has the same range"; a strike has none
abbrev pub good_settlement : SpreadRule → Bool
good_settlement (Settled sp) = good_price sp.0
good_settlement (OfStrike s) = true

-- document 02, W4: a strike's four numbers in their ranges; "in place of SP", so with SP there are none
abbrev pub good_spread_rule : SpreadRule → Bool
good_spread_rule (Settled sp) = true
good_spread_rule (OfStrike s) = good_strike s

module _ (terms : Terms) where
  -- 1 row not seven words; 2 a word outside its range
  abbrev pub row_causes : SpreadRule → List ℕ → List Cause
  row_causes spread words = cause 1 (not (eqb (length words) 7)) ∷ cause 2 (not (good_row_for terms spread (row_of words))) ∷ []

  -- a row read from words: the row, or 1 or 2
  unfoldable pub read_row : SpreadRule → List ℕ → Outcome Row
  read_row spread words = outcome_by (first_number (row_causes spread words)) (row_of words)

  abbrev pub good_charges : Kopecks → Kopecks → Bool
  good_charges active passive = good_charge terms active.0 && good_charge terms passive.0

  -- 3 day, expiry, quantum, SP, A or P outside its range; 4 open on a filled cell; 5 charge, withdraw or look on a blank cell;
  -- 6 open while a quantum is open; 7 an event, close or drop with none open; document 02, W1: "17, lapse limit outside its values, at
  -- open"; W4: "18, .. a number outside the ranges above"; W5: "19, a ticket whose amendment or count is not the present one, after
  -- amend's own"
  unfoldable pub causes : Book → Call → List Cause
  causes b (Open words day opening) =
      row_causes opening.spread words
      ++ (cause 3 (not (within 1 31 day && good_settlement opening.spread))
      ∷ cause 4 (cell_at b.cells (place_of day (row_of words).expiry (row_of words).quantum)).filled
      ∷ cause 6 (is_open b.running)
      ∷ cause 17 (not (good_lapse_limit opening.allowed))
      ∷ cause 18 (not (good_spread_rule opening.spread))
      ∷ [])
  causes b (Send e) = send_causes b.running e
  causes b (Message start bytes) = message_causes b.running (message_in start bytes)
  causes b (Ask a) = send_causes b.running (amend_of a)
  causes b (Commit a ticket) = send_causes b.running (amend_of a) ++ (cause 19 (not (good_ticket ticket a b.count)) ∷ [])
  causes b (Close active passive) = cause 3 (not (good_charges active passive)) ∷ cause 7 (not (is_open b.running)) ∷ []
  causes b Drop = cause 7 (not (is_open b.running)) ∷ []
  causes b (Charge day expiry quantum active passive) =
      cause 3 (not (good_cell day expiry quantum && good_charges active passive))
      ∷ cause 5 (not (cell_at b.cells (place_of day expiry quantum)).filled)
      ∷ []
  causes b (Withdraw day expiry quantum) =
      cause 3 (not (good_cell day expiry quantum)) ∷ cause 5 (not (cell_at b.cells (place_of day expiry quantum)).filled) ∷ []
  causes b (Look day expiry quantum) =
      cause 3 (not (good_cell day expiry quantum)) ∷ cause 5 (not (cell_at b.cells (place_of day expiry quantum)).filled) ∷ []
  causes b Report = []
  -- an outlook is on an open quantum, as an event, close and drop are
  causes b Outlook = cause 7 (not (is_open b.running)) ∷ []

  -- the number that refuses the call, 0 where it is accepted
  unfoldable pub refusal_of : Book → Call → ℕ
  refusal_of b c = first_number (causes b c)
