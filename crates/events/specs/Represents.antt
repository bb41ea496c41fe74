-- The duty, the clock and the table that represent an open quantum's accepted events, and what an event on them promises.
use Rattle.std.specs.Prelude.{ℕ, zero, suc, ◌≤◌, ◌≡◌, List, [], ◌∷◌, ◌++◌, length}
use Rattle.rules.specs.declared.Row.{Row}
use Rattle.rules.specs.declared.SpreadRule.{SpreadRule}
use Rattle.rules.specs.declared.Event.{Event}
use Rattle.rules.specs.Orders.{live}
use Rattle.rules.specs.Answers.{Outcome, accepted, refused}
use Rattle.rules.specs.Causes.{event_refusal}
use Rattle.rules.specs.Bounds.{EventBounds}
use Rattle.order_table.specs.Table.{table_of}
use Rattle.clock.specs.declared.Duty.{Duty}
use Rattle.clock.specs.declared.Clock.{Clock}
use Rattle.clock.specs.Clocks.{duty_of, clock_of}
use Rattle.events.specs.declared.ClockAfter.{ClockAfter}

-- the table of the live orders
abbrev pub table_after : Row → List Event → List ℕ
table_after row events = table_of row.minimum.0 (live events)

-- the events with this one, where it is not refused
abbrev pub taken : ℕ → List Event → Event → List Event
taken zero events e = events ++ (e ∷ [])
taken (suc n) events e = events

-- a duty, a clock and a table that represent some accepted events, and hints of their size
pub record ReachedParts (duty : Duty) (clock : Clock) (table hints : List ℕ) : Type 0 where
  pub row : Row
  pub sp : SpreadRule
  pub events : List Event
  pub some : 1 ≤ row.minimum.0
  pub bounds : EventBounds row events
  pub duty_is : duty ≡ duty_of row sp
  pub clock_is : clock ≡ clock_of row sp events
  pub table_is : table ≡ table_after row events
  pub hinted : length hints ≡ 2048

-- they represent these events
pub record Represents (row : Row) (sp : SpreadRule) (events : List Event) (duty : Duty) (clock : Clock) (table : List ℕ) : Type 0 where
  pub bounds : EventBounds row events
  pub duty_is : duty ≡ duty_of row sp
  pub clock_is : clock ≡ clock_of row sp events
  pub table_is : table ≡ table_after row events

-- what an event promises of them: the book's number, and the clock and the table with this event taken or refused
pub record EventStepped (duty : Duty) (clock : Clock) (e : Event) (entry exit : List ℕ) (r : ClockAfter) : Type 0 where
  pub number : (row : Row) (sp : SpreadRule) (events : List Event) → Represents row sp events duty clock entry → r.refusal ≡ event_refusal row events e
  pub clock_after : (row : Row) (sp : SpreadRule) (events : List Event) → Represents row sp events duty clock entry
      → r.clock ≡ clock_of row sp (taken (event_refusal row events e) events e)
  pub table_next : (row : Row) (sp : SpreadRule) (events : List Event) → Represents row sp events duty clock entry
      → exit ≡ table_after row (taken (event_refusal row events e) events e)

-- what a record's fields promise: those that say an event what it promises; others their refusal, with the clock and the table as they were
abbrev pub FieldsStepped : Duty → Clock → Outcome Event → List ℕ → List ℕ → ClockAfter → Type 0
FieldsStepped duty clock (accepted e) entry exit r = EventStepped duty clock e entry exit r
FieldsStepped duty clock (refused n) entry exit r = (r.clock ≡ clock) × (r.refusal ≡ n) × (exit ≡ entry)
