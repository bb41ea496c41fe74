-- The live orders' ids in the order in which they were added, which a table of two sides does not keep: 64 words, 0 after the ids.
use Rattle.std.specs.Prelude.{ℕ, ◌≡◌, List, [], ◌∷◌, ◌++◌, map, length}
use Rattle.rules.specs.declared.Order.{Order}
use Rattle.rules.specs.declared.Row.{Row}
use Rattle.rules.specs.declared.Event.{Event}
use Rattle.rules.specs.declared.Event.TheVariants.{Add, Amend, Cancel, Deal, Tick}
use Rattle.rules.specs.Orders.{live}
use Rattle.rules.specs.Causes.{event_refusal}
use Rattle.rules.specs.Bounds.{EventBounds}
use Rattle.order_side.specs.Slots.{column}

abbrev pub ids_in : List Order → List ℕ
ids_in orders = map (λ (o : Order). o.id) orders

unfoldable pub arrivals_of : List Order → List ℕ
arrivals_of orders = column (ids_in orders)

-- the id that an event names; a tick names none
abbrev pub id_of : Event → ℕ
id_of (Add t id side price volume) = id
id_of (Amend t id price volume) = id
id_of (Cancel t id) = id
id_of (Deal t id volume) = id
id_of (Tick t) = 0

-- these are the ids before an accepted event, the numbers of live orders before and after it, and the id that it names
pub record Follows (row : Row) (events : List Event) (e : Event) (ids : List ℕ) (before after id : ℕ) : Type 0 where
  pub bounds : EventBounds row events
  pub accepted : event_refusal row events e ≡ 0
  pub ids_are : ids ≡ arrivals_of (live events)
  pub before_is : before ≡ length (live events)
  pub after_is : after ≡ length (live (events ++ (e ∷ [])))
  pub id_is : id ≡ id_of e

-- .. of some events
pub record Notable (ids : List ℕ) (before after id : ℕ) : Type 0 where
  pub row : Row
  pub events : List Event
  pub event : Event
  pub follows : Follows row events event ids before after id
