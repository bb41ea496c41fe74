-- Document 02, W11: the calls that a message means, by its bytes and the quantum's start.
use Rattle.std.specs.Prelude.{ℕ, List, [], ◌∷◌, Option, None, Some}
use Rattle.rules.specs.declared.Event.{Event}
use Rattle.rules.specs.declared.Event.TheVariants.{Add, Cancel}
use Rattle.rules.specs.declared.Timestamp.{Timestamp}
use Rattle.rules.specs.Units.{millis}
use Rattle.rules.specs.Answers.{Outcome, accepted, refused}
use Rattle.rules.specs.Dates.{time_in, Moment, before, at, late, moment_of}
use Rattle.rules.specs.Messages.{Message, new_order, cancel_order, replace_order, time_of, with_time, read_message}

-- "The time is taken from the quantum's start, given with the reader in the same form (else 21)"
abbrev pub timed_from : Option Timestamp → Message Timestamp → Outcome (Message Moment)
timed_from None m = refused 21
timed_from (Some start) m = accepted (with_time m (moment_of start (time_of m)))

abbrev pub timed : List ℕ → Outcome (Message Timestamp) → Outcome (Message Moment)
timed start (refused n) = refused n
timed start (accepted m) = timed_from (time_in start) m

-- the message with its time from the start, or the number, 20 or 21, that refuses it whatever the book holds
unfoldable pub message_in : List ℕ → List ℕ → Outcome (Message Moment)
message_in start bytes = timed start (read_message bytes)

-- "D is add and F cancels the order named by 41. G is that cancel and an add under 11", all of them at time t
abbrev pub events_at : Message Moment → ℕ → List Event
events_at (new_order id side volume price time) t = Add (millis t) id side price volume ∷ []
events_at (cancel_order id orig time) t = Cancel (millis t) orig ∷ []
events_at (replace_order id orig side volume price time) t = Cancel (millis t) orig ∷ Add (millis t) id side price volume ∷ []

-- a time before the start, or past 32 bits, is no event's: such a message is refused, "a refused one [stands there] as none"
abbrev pub events_by : Message Moment → Moment → List Event
events_by m before = []
events_by m (at t) = events_at m t
events_by m late = []

abbrev pub events_in : Outcome (Message Moment) → List Event
events_in (refused n) = []
events_in (accepted m) = events_by m (time_of m)

-- the one or two events of a message that is accepted
unfoldable pub events_of : List ℕ → List ℕ → List Event
events_of start bytes = events_in (message_in start bytes)
