-- Document 01, "A row and a month" and "Afresh": what events do to the live orders.
use Rattle.std.specs.Prelude.{ℕ, ◌-◌, List, [], ◌∷◌, ◌++◌, map, Bool, not, eqb, ltb, if◌then◌else◌}
use Rattle.rules.specs.declared.Order.{Order}
use Rattle.rules.specs.declared.Steps.{Steps}
use Rattle.rules.specs.declared.Contracts.{Contracts}
use Rattle.rules.specs.declared.Event.{Event}
use Rattle.rules.specs.declared.Event.TheVariants.{Add, Amend, Cancel, Deal, Tick}
use Rattle.lists.specs.Lists.{filter, any}
use Rattle.rules.specs.Units.{contracts}

abbrev pub has_id : ℕ → Order → Bool
has_id id o = eqb o.id id

-- an order with that id is live
unfoldable pub is_live : ℕ → List Order → Bool
is_live id orders = any (has_id id) orders

-- what is left of the live order with that id, 0 where there is none
unfoldable pub left : ℕ → List Order → ℕ
left id [] = 0
left id (o ∷ os) = let rest = left id os in if has_id id o then o.volume.0 else rest

-- amend "keeps id and side and puts the new price and volume in place of the old"
abbrev pub amended_order : ℕ → Steps → Contracts → Order → Order
amended_order id price volume o =
    if has_id id o then record { id = o.id; side = o.side; price = price; volume = volume } else o

-- deal "lessens the order .."
abbrev pub lessened_order : ℕ → ℕ → Order → Order
lessened_order id volume o =
    if has_id id o then record { id = o.id; side = o.side; price = o.price; volume = contracts (o.volume.0 - volume) } else o

-- ".. and removes it at nothing left"
abbrev pub something_left : Order → Bool
something_left o = ltb 0 o.volume.0

unfoldable pub apply : List Order → Event → List Order
apply orders (Add t id side price volume) = orders ++ (record { id = id; side = side; price = price; volume = volume } ∷ [])
apply orders (Amend t id price volume) = map (amended_order id price volume) orders
apply orders (Cancel t id) = filter (λ (o : Order). not (has_id id o)) orders
apply orders (Deal t id volume) = filter something_left (map (lessened_order id volume.0) orders)
apply orders (Tick t) = orders

unfoldable pub apply_all : List Order → List Event → List Order
apply_all orders [] = orders
apply_all orders (e ∷ es) = apply_all (apply orders e) es

-- "The live orders are those left by going through the list from its first event."
unfoldable pub live : List Event → List Order
live events = apply_all [] events

abbrev pub time_of : Event → ℕ
time_of (Add t id side price volume) = t.0
time_of (Amend t id price volume) = t.0
time_of (Cancel t id) = t.0
time_of (Deal t id volume) = t.0
time_of (Tick t) = t.0

unfoldable pub time_from : ℕ → List Event → ℕ
time_from t [] = t
time_from t (e ∷ es) = time_from (time_of e) es

-- the time: 0 at open; after an event, "the time is its t"
unfoldable pub present : List Event → ℕ
present events = time_from 0 events
