-- What an event does to the live orders, and to the table that represents them.
use Rattle.std.specs.Prelude.{ℕ, zero, suc, ◌≡◌, List, [], ◌∷◌, if◌then◌else◌}
use Rattle.rules.specs.declared.Side.{Side}
use Rattle.rules.specs.declared.Side.TheVariants.{Buy}
use Rattle.rules.specs.declared.Order.{Order}
use Rattle.rules.specs.declared.Event.{Event}
use Rattle.rules.specs.declared.Event.TheVariants.{Add, Amend, Cancel, Deal, Tick}
use Rattle.lists.specs.Lists.{filter}
use Rattle.rules.specs.Orders.{has_id, apply}
use Rattle.rules.specs.Causes.{first_number, trader_causes}
use Rattle.order_table.specs.Table.{table_of, GoodOrders}

-- the id of the order that an event adds or names; a tick names none, and the table is not asked
abbrev pub id_of : Event → ℕ
id_of (Add t id side price volume) = id
id_of (Amend t id price volume) = id
id_of (Cancel t id) = id
id_of (Deal t id volume) = id
id_of (Tick t) = 0

-- the side of the order with an id; where there is none, an event that names it is refused
unfoldable pub side_with : ℕ → List Order → Side
side_with id [] = Buy
side_with id (o ∷ os) = let rest = side_with id os in if has_id id o then o.side else rest

-- the side of an event: an add's own, else that of the live order that it names
abbrev pub side_for : List Order → Event → Side
side_for live (Add t id side price volume) = side
side_for live (Amend t id price volume) = side_with id live
side_for live (Cancel t id) = side_with id live
side_for live (Deal t id volume) = side_with id live
side_for live (Tick t) = Buy

-- of the orders after an event, the one that it added or changed; none where it removed one
abbrev pub changed_by : Event → List Order → List Order
changed_by e after = filter (has_id (id_of e)) after

-- the live orders after an event that the number refuses, or none where it is 0
abbrev pub sent_to : ℕ → List Order → Event → List Order
sent_to zero live e = apply live e
sent_to (suc n) live e = live

-- what an event promises: for all live orders that the table represents, the trader's refusal and the table after it
pub record TableChanged (e : Event) (minimum : ℕ) (entry exit : List ℕ) (r : ℕ) : Type 0 where
  pub refusal : (live : List Order) → GoodOrders live → entry ≡ table_of minimum live → r ≡ first_number (trader_causes live e)
  pub table : (live : List Order) → GoodOrders live → entry ≡ table_of minimum live → exit ≡ table_of minimum (sent_to r live e)
