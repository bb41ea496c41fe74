-- What the functions of a view promise to each other.
use Rattle.std.specs.Prelude.{ℕ, ◌<◌, ◌≡◌, List, [], ◌∷◌, ◌++◌, length, get_or, take, drop}
use Rattle.rules.specs.declared.Order.{Order}
use Rattle.rules.specs.declared.Side.TheVariants.{Buy, Sell}
use Rattle.order_table.specs.Table.{of_side, table_of, GoodOrders}
use Rattle.order_table.specs.Internal.{blank_order}
use Rattle.order_arrivals.specs.Arrivals.{ids_in}

-- the 17 words in front of the orders', from those of the quantum
abbrev pub head_from : ℕ → ℕ → ℕ → ℕ → List ℕ → List ℕ
head_from day allowed state count quantum =
    (day ∷ []) ++ (take 12 (drop 586 quantum) ++ (allowed ∷ get_or quantum 2 0 ∷ state ∷ count ∷ []))

-- a table of live orders, and the place of the one that has the id
pub record Placed (table : List ℕ) (id : ℕ) : Type 0 where
  pub minimum : ℕ
  pub live : List Order
  pub good : GoodOrders live
  pub is : table ≡ table_of minimum live
  pub place : ℕ
  pub inside : place < length live
  pub has : (get_or live place blank_order).id ≡ id

-- and how many buys and sells were added before it
pub record NextIn (table : List ℕ) (id buys sells : ℕ) : Type 0 where
  pub placed : Placed table id
  pub buys_are : buys ≡ length (of_side Buy (take placed.place placed.live))
  pub sells_are : sells ≡ length (of_side Sell (take placed.place placed.live))

-- a table of live orders, and their ids as they were added
pub record Listed (table ids : List ℕ) : Type 0 where
  pub minimum : ℕ
  pub live : List Order
  pub good : GoodOrders live
  pub is : table ≡ table_of minimum live
  pub are : ids ≡ ids_in live
