-- What the functions of an open quantum promise to each other.
use Rattle.std.specs.Prelude.{ℕ, ◌≡◌, List, [], ◌∷◌, ◌++◌}
use Rattle.rules.specs.declared.Row.{Row}
use Rattle.rules.specs.declared.SpreadRule.{SpreadRule}
use Rattle.rules.specs.declared.Event.{Event}
use Rattle.rules.specs.Orders.{live}
use Rattle.rules.specs.Causes.{event_refusal}
use Rattle.rules.specs.Bounds.{EventBounds}
use Rattle.order_arrivals.specs.Notes.{notes_of}
use Rattle.events.specs.Represents.{table_after}

-- an accepted event's tables before and after it, and the notes before it
pub record Accepts (row : Row) (sp : SpreadRule) (events : List Event) (e : Event) (before after notes : List ℕ) : Type 0 where
  pub bounds : EventBounds row events
  pub accepted : event_refusal row events e ≡ 0
  pub before_is : before ≡ table_after row events
  pub after_is : after ≡ table_after row (events ++ (e ∷ []))
  pub notes_are : notes ≡ notes_of row sp (live events)

pub record Noting (before after notes : List ℕ) (e : Event) : Type 0 where
  pub row : Row
  pub sp : SpreadRule
  pub events : List Event
  pub accepts : Accepts row sp events e before after notes
