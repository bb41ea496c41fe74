-- The one value of the struct that represents an open quantum's accepted events, and what its calls promise.
use Rattle.std.specs.Prelude.{◌≤◌, ◌≡◌, List, [], pos}
use Rattle.rules.specs.declared.Row.{Row}
use Rattle.rules.specs.declared.SpreadRule.{SpreadRule}
use Rattle.rules.specs.declared.SpreadRule.TheVariants.{Settled}
use Rattle.rules.specs.declared.Event.{Event}
use Rattle.rules.specs.Units.{millis, steps, contracts}
use Rattle.rules.specs.Orders.{live}
use Rattle.rules.specs.Answers.{outcome_by, done, shown_answer}
use Rattle.rules.specs.Calls.{Running, Idle, Quoting}
use Rattle.rules.specs.Causes.{event_refusal}
use Rattle.rules.specs.Bounds.{EventBounds}
use Rattle.clock.specs.Clocks.{duty_of, clock_of}
use Rattle.events.specs.Represents.{table_after, taken}
use Rattle.order_arrivals.specs.Notes.{notes_of}
use Rattle.quantum.specs.declared.Quantum.{Quantum}
use Rattle.quantum.specs.declared.Sent.{Sent}

unfoldable pub quantum_of : Row → SpreadRule → List Event → Quantum
quantum_of row sp events =
    record {
      duty = duty_of row sp;
      clock = clock_of row sp events;
      table = table_after row events;
      notes = notes_of row sp (live events);
    }

-- the quantum's value while none is open: one that has just opened with this row
abbrev pub idle_row : Row
idle_row =
    record {
      expiry = 1;
      quantum = 0;
      length = millis 1000;
      minimum = contracts 1;
      a = 0;
      b = 0;
      share = 1;
    }

abbrev pub quantum_in : Running → Quantum
quantum_in Idle = quantum_of idle_row (Settled (steps (pos 0))) []
quantum_in (Quoting place row opening events) = quantum_of row opening.spread events

-- it holds of every row, spread rule and accepted events that led to q
abbrev pub OfEvents : Quantum → (Row → SpreadRule → List Event → Type 0) → Type 0
OfEvents q Holds = (row : Row) (sp : SpreadRule) (events : List Event) → EventBounds row events → q ≡ quantum_of row sp events → Holds row sp events

-- a quantum that a call handed back
pub record Reached (q : Quantum) : Type 0 where
  pub row : Row
  pub sp : SpreadRule
  pub events : List Event
  pub some : 1 ≤ row.minimum.0
  pub bounds : EventBounds row events
  pub is : q ≡ quantum_of row sp events

-- what an event promises: for all accepted events that led to q, the quantum with this event taken or refused, and the book's number
pub record Answered (q : Quantum) (e : Event) (r : Sent) : Type 0 where
  pub quantum : OfEvents q (λ row sp events. r.quantum ≡ quantum_of row sp (taken (event_refusal row events e) events e))
  pub answer : OfEvents q (λ row sp events. shown_answer r.answer ≡ outcome_by (event_refusal row events e) done)
