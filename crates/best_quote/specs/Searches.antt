-- What the search for a best quote promises: of the orders whose columns it is lent, the better of the quote that it starts from and
-- the best one, and for how many orders it added up volumes.
use Rattle.std.specs.Prelude.{ℕ, ◌≡◌, true, ltb, length, replicate}
use mathlib.Core.List.{List, ◌++◌, map, Memᴰ}
use Rattle.rules.specs.declared.Side.{Side}
use Rattle.rules.specs.declared.Order.{Order}
use Rattle.rules.specs.Units.{good_price}
use Rattle.rules.specs.Quotes.{same, volume_of, better, best}
use Rattle.rules.specs.Search.{sums_after}
use Rattle.best_quote.specs.declared.Searched.{Searched}
use Rattle.price_keys.specs.Keys.{key_in, quote_at}
use Rattle.best_quote.specs.Levels.{held, enough, found_by, depth_from}
use Rattle.best_quote.specs.Sums.{found_in, key_sums}

-- the columns of these orders, all of the side: their keys and volumes, blanks after them
pub record ColumnsOf (side : Side) (orders : List Order) (ks vs : List ℕ) : Type 0 where
  pub blanks : ℕ
  pub keys : ks ≡ map (key_in side) orders ++ replicate blanks 0
  pub volumes : vs ≡ map volume_of orders ++ replicate blanks 0
  pub sided : (o : Order) → Memᴰ o orders → same side o.side ≡ true
  pub prices : (o : Order) → Memᴰ o orders → good_price o.price.0 ≡ true

-- orders of the side, each of a price in its range
pub record OrdersOf (side : Side) (orders : List Order) : Type 0 where
  pub sided : (o : Order) → Memᴰ o orders → same side o.side ≡ true
  pub prices : (o : Order) → Memᴰ o orders → good_price o.price.0 ≡ true

pub record SearchFinds (side : Side) (ks vs : List ℕ) (start minimum : ℕ) (r : Searched) : Type 0 where
  -- in keys, with the contracts at better ones, and those at it or better: 0 where nothing better than the start is found
  pub found : r.quote ≡ quote_at side (found_by start minimum ks vs (length ks))
  pub before : r.before ≡ held (ltb (found_by start minimum ks vs (length ks))) ks vs
  pub depth : r.depth ≡ depth_from start (found_by start minimum ks vs (length ks)) ks vs
  -- W3's number: the keys in turn, from what was found before them
  pub sums : r.sums ≡ key_sums (enough minimum ks vs) start ks
  -- in orders
  pub quote : (orders : List Order) → ColumnsOf side orders ks vs → r.quote ≡ better side (quote_at side start) (best side minimum orders)
  -- .. and W3's number of them, where the start is the best key found among candidates looked at before: with none of these the start
  -- is 0, and the number `sums_of`
  pub sums_of : (orders before : List Order) → ColumnsOf side orders ks vs → OrdersOf side before
      → start ≡ found_in (enough minimum ks vs) 0 (map (key_in side) before) → r.sums ≡ sums_after side minimum orders before orders
