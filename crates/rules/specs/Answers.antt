-- Document 01, "Refused calls": the numbers, and what each answer shows: its number and values, case by case. That two different
-- answers never show the same is in proofs/Answers.
use Rattle.std.specs.Prelude.{ℕ, zero, suc, Result, Ok, Err}
use Rattle.rules.specs.declared.Row.{Row}
use Rattle.rules.specs.declared.Event.{Event}
use Rattle.rules.specs.declared.Refusal.{Refusal}
use Rattle.rules.specs.declared.Refusal.TheVariants.{RowNotSevenWords, RowWordOutOfRange, ArgumentOutOfRange, CellFilled, CellBlank, QuantumOpen, NoQuantumOpen, TimeBackwards, TimePastEnd, IdLive, IdNotLive, PriceOrVolumeOutOfRange, TooManyOrders, DealAboveLeft, BadRecord, BufferShort, LapseLimitOutOfRange, StrikesOutOfRange, WrongTicket, FrameWrong, FieldWrong}
use Rattle.rules.specs.declared.CellView.{CellView}
use Rattle.rules.specs.declared.Report.{Report}
use Rattle.rules.specs.declared.Preview.{Preview}
use Rattle.rules.specs.declared.Outlook.{Outlook}

abbrev pub number_of : Refusal → ℕ
-- the table keeper: row not seven words (or leading bytes not 32); a word outside its range
number_of RowNotSevenWords = 1
number_of RowWordOutOfRange = 2
-- the office: day, expiry, quantum, SP, A or P outside its range; open on a filled cell; charge, withdraw or look on a blank cell;
-- open while a quantum is open; an event, close or drop with none open
number_of ArgumentOutOfRange = 3
number_of CellFilled = 4
number_of CellBlank = 5
number_of QuantumOpen = 6
number_of NoQuantumOpen = 7
-- the feed: t below the last accepted time; t above L
number_of TimeBackwards = 8
number_of TimePastEnd = 9
-- the trader: add with a live id; amend, cancel or deal on an id not live; price or volume outside its range; add with 64 live;
-- deal above what is left of the order
number_of IdLive = 10
number_of IdNotLive = 11
number_of PriceOrVolumeOutOfRange = 12
number_of TooManyOrders = 13
number_of DealAboveLeft = 14
-- the feed: a record cut short, of unknown kind, with a nonzero byte where zero is due, or past the run's limit
number_of BadRecord = 15
-- the office: buffer shorter than the pairs to write
number_of BufferShort = 16
-- document 02, W1: "17, lapse limit outside its values, at open"
number_of LapseLimitOutOfRange = 17
-- W4: "18, an empty or overlong board, unequal lengths, or a number outside the ranges above"
number_of StrikesOutOfRange = 18
-- W5: "19, a ticket whose amendment or count is not the present one, after amend's own"
number_of WrongTicket = 19
-- W11: "20, frame, length, checksum or message type wrong; 21, a used tag absent, twice, unreadable or with a number past 32 bits"
number_of FrameWrong = 20
number_of FieldWrong = 21

-- what is worked out afresh: accepted with values, or refused by a number
pub data Outcome (A : Type 0) : Type 0 where
  accepted : A → Outcome A
  refused : ℕ → Outcome A

-- refused by the number, or accepted with the values where it is 0
abbrev pub outcome_by : {A : Type 0} → ℕ → A → Outcome A
outcome_by zero values = accepted values
outcome_by (suc n) values = refused (suc n)

-- what an accepted call of the month shows
pub data Reply : Type 0 where
  done : Reply
  cell : CellView → Reply
  -- document 02, W5: "both best quotes after it and a ticket"
  asked : Preview → Reply
  report : Report → Reply
  outlook : Outlook → Reply

-- what is refused shows the refusal's number
abbrev pub shown : {T R : Type 0} → (T → R) → Result T Refusal → Outcome R
shown values (Ok x) = accepted (values x)
shown values (Err r) = refused (number_of r)

abbrev pub shown_answer : Result (Unit {0}) Refusal → Outcome Reply
shown_answer = shown (λ nothing. done)

abbrev pub shown_looked : Result CellView Refusal → Outcome Reply
shown_looked = shown cell

abbrev pub shown_asked : Result Preview Refusal → Outcome Reply
shown_asked = shown asked

abbrev pub shown_report : Report → Outcome Reply
shown_report r = accepted (report r)

abbrev pub shown_outlook : Result Outlook Refusal → Outcome Reply
shown_outlook = shown outlook

abbrev pub shown_row : Result Row Refusal → Outcome Row
shown_row = shown (λ row. row)

abbrev pub shown_record : Result Event Refusal → Outcome Event
shown_record = shown (λ e. e)
