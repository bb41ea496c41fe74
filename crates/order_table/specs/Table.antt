-- The live orders of both sides in 512 words: the buys' 256, then the sells' (crate order_side).
use Rattle.std.specs.Prelude.{ℕ, ◌+◌, ◌-◌, ◌≤◌, ◌≡◌, true, ltb, length, if◌then◌else◌}
use mathlib.Core.List.{List, ◌++◌, map, Memᴰ}
use Rattle.rules.specs.declared.Side.{Side}
use Rattle.rules.specs.declared.Side.TheVariants.{Buy, Sell}
use Rattle.rules.specs.declared.Order.{Order}
use Rattle.lists.specs.Lists.{filter}
use Rattle.rules.specs.Units.{good_price, good_volume}
use Rattle.rules.specs.Quotes.{same}
use Rattle.rules.specs.Bounds.{Distinct}
use Rattle.order_side.specs.Slots.{Slot, slot_of, side_of, kept_in, seen}

-- the orders of a side, in their order
abbrev pub of_side : Side → List Order → List Order
of_side side live = filter (λ (o : Order). same side o.side) live

abbrev pub slots_in : Side → List Order → List Slot
slots_in side live = map (slot_of side) (of_side side live)

-- a side's words: its orders, and what it keeps of its best level for the least volume of a quote
abbrev pub side_in : ℕ → Side → List Order → List ℕ
side_in minimum side live = side_of (slots_in side live) (kept_in minimum (slots_in side live))

unfoldable pub table_of : ℕ → List Order → List ℕ
table_of minimum live = side_in minimum Buy live ++ side_in minimum Sell live

-- live orders as the plain book's bounds have them
pub record GoodOrders (live : List Order) : Type 0 where
  pub few : length live ≤ 64
  pub distinct : Distinct live
  pub prices : (o : Order) → Memᴰ o live → good_price o.price.0 ≡ true
  pub volumes : (o : Order) → Memᴰ o live → good_volume o.volume.0 ≡ true

-- a table that represents live orders
pub record Held (table : List ℕ) : Type 0 where
  pub minimum : ℕ
  pub live : List Order
  pub good : GoodOrders live
  pub is : table ≡ table_of minimum live

-- and for this least volume, with hints of their size
pub record Holding (table hints : List ℕ) (minimum : ℕ) : Type 0 where
  pub live : List Order
  pub good : GoodOrders live
  pub is : table ≡ table_of minimum live
  pub hinted : length hints ≡ 2048
  pub some : 1 ≤ minimum

-- the slot of the order with an id: a buy's place, 64 + a sell's, or 128 where no live order has it
abbrev pub slot_by : ℕ → ℕ → ℕ
slot_by buys sells = if ltb 0 buys then buys - 1 else if ltb 0 sells then 63 + sells else 128

abbrev pub slot_in : ℕ → List Order → ℕ
slot_in id live = slot_by (seen id (slots_in Buy live)) (seen id (slots_in Sell live))
