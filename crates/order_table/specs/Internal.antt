-- What the functions on the table promise to each other and to those on its events.
use Rattle.std.specs.Prelude.{ℕ, zero, suc, ◌+◌, ◌*◌, ◌/◌, ◌%◌, ◌≤◌, ◌<◌, ◌≡◌, List, ◌++◌, pos, length, get_or, set}
use Rattle.rules.specs.declared.Side.{Side}
use Rattle.rules.specs.declared.Side.TheVariants.{Buy, Sell}
use Rattle.rules.specs.declared.Order.{Order}
use Rattle.rules.specs.Units.{steps, contracts}
use Rattle.order_table.specs.Table.{of_side, table_of, slot_in, GoodOrders}

-- a side by its number: buys 0, sells 1
abbrev pub side_at : ℕ → Side
side_at zero = Buy
side_at (suc n) = Sell

abbrev pub other : Side → Side
other Buy = Sell
other Sell = Buy

pub record Numbers (side : Side) (s : ℕ) : Type 0 where
  pub is : side_at s ≡ side
  pub small : s < 2

-- ---- orders

abbrev pub blank_order : Order
blank_order = record { id = 0; side = Buy; price = steps (pos 0); volume = contracts 0 }

-- the live order in a slot
abbrev pub order_in : ℕ → List Order → Order
order_in slot live = get_or (of_side (side_at (slot / 64)) live) (slot % 64) blank_order

-- ---- the table

-- the table of the words of a side, by its number, and of the other side
abbrev pub joined : ℕ → List ℕ → List ℕ → List ℕ
joined zero own others = own ++ others
joined (suc n) own others = others ++ own

-- a table that stands for live orders
pub record Represents (table : List ℕ) (minimum : ℕ) (live : List Order) : Type 0 where
  pub good : GoodOrders live
  pub is : table ≡ table_of minimum live

-- some such orders, and a slot of an id among them
pub record Located (table : List ℕ) (slot : ℕ) : Type 0 where
  pub id : ℕ
  pub minimum : ℕ
  pub live : List Order
  pub represents : Represents table minimum live
  pub long : length table ≡ 512
  pub at : slot ≡ slot_in id live

-- the places of a side's orders, to write down in the hints
pub record Placed (table hints : List ℕ) (s : ℕ) : Type 0 where
  pub long : length table ≡ 512
  pub hinted : length hints ≡ 2048
  pub number : s < 2
  pub few : get_or table (256 * s + 192) 0 ≤ 64

-- ---- the hints

-- the slot where an id was last found, at the id modulo 2,048
abbrev pub noted : List ℕ → ℕ → ℕ → List ℕ
noted hints id slot = set hints (id % 2048) slot

-- n orders of a side from a place on, one after the other, each at its own slot
unfoldable pub rehinted : List ℕ → ℕ → ℕ → ℕ → List ℕ → List ℕ
rehinted table s place zero hints = hints
rehinted table s place (suc n) hints = noted (rehinted table s place n hints) (get_or table (256 * s + (place + n)) 0) (64 * s + (place + n))
