-- Document 02, W3, of lists of events: "show that this is exactly the number of such orders, in the order searched." `next_search` in
-- proofs/Searching shows it of what `send` answers to the fields of an event, for every list of accepted events and the next one.
use Rattle.std.specs.Prelude.{ℕ, ◌≡◌, List, [], ◌∷◌, ◌++◌}
use Rattle.rules.specs.declared.Row.{Row}
use Rattle.rules.specs.declared.Event.{Event}
use Rattle.rules.specs.Orders.{live}
use Rattle.rules.specs.Causes.{event_refusal}
use Rattle.book.specs.EventAnswered.{sums_between}

-- each of the events is accepted after those before it
abbrev pub AcceptedAfter : Row → List Event → List Event → Type 0
AcceptedAfter row before [] = Unit {0}
AcceptedAfter row before (e ∷ es) = (event_refusal row before e ≡ 0) × AcceptedAfter row (before ++ (e ∷ [])) es

abbrev pub Accepted : Row → List Event → Type 0
Accepted row events = AcceptedAfter row [] events

-- W3's number for the event after these: of the live orders before it and after it
abbrev pub next_sums : Row → List Event → Event → ℕ
next_sums row events e = sums_between row.minimum.0 e (live events) (live (events ++ (e ∷ [])))
