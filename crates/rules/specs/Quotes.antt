-- Document 01, "Best quote and kept time": the best quote on a side of the live orders.
use Rattle.std.specs.Prelude.{ℕ, ◌≡◌, Bool, true, false, ◌&&◌, leb, ℤ, if◌then◌else◌, None, Option, Some}
use mathlib.Core.List.{List, [], ◌∷◌, map, Memᴰ}
use Rattle.std.specs.Int.Signed.{le_z}
use Rattle.rules.specs.declared.Steps.{Steps}
use Rattle.rules.specs.declared.Side.{Side}
use Rattle.rules.specs.declared.Side.TheVariants.{Buy, Sell}
use Rattle.rules.specs.declared.Order.{Order}
use Rattle.lists.specs.Lists.{sum, filter}

abbrev pub same : Side → Side → Bool
same Buy Buy = true
same Buy Sell = false
same Sell Buy = false
same Sell Sell = true

-- a price p is at q or better: "at that price or higher" for buy orders, "at that price or lower" for sell orders
abbrev pub at_least : Side → ℤ → ℤ → Bool
at_least Buy p q = le_z q p
at_least Sell p q = le_z p q

-- the order is of the side, at the price or better
abbrev pub in_depth : Side → ℤ → Order → Bool
in_depth side p o = same side o.side && at_least side o.price.0 p

abbrev pub volume_of : Order → ℕ
volume_of o = o.volume.0

-- the contracts that the orders of the side at the price or better hold together
unfoldable pub depth : Side → ℤ → List Order → ℕ
depth side p orders = sum (map volume_of (filter (in_depth side p) orders))

-- a live order of the side "for which the live buy orders at that price or higher hold M contracts or more together", or the live sell
-- orders at that price or lower
unfoldable pub qualifies : Side → ℕ → List Order → Order → Bool
qualifies side minimum orders o = same side o.side && leb minimum (depth side o.price.0 orders)

-- the better of two quotes: the greater bid, the lesser ask
abbrev pub better : Side → Option Steps → Option Steps → Option Steps
better side None y = y
better side (Some p) None = Some p
better side (Some p) (Some q) = if at_least side p.0 q.0 then Some p else Some q

-- the best price of some orders, absent where there are none
unfoldable pub lead : Side → List Order → Option Steps
lead side [] = None
lead side (o ∷ os) = better side (Some o.price) (lead side os)

-- best bid and best ask
unfoldable pub best : Side → ℕ → List Order → Option Steps
best side minimum orders = lead side (filter (qualifies side minimum orders) orders)

-- What the paper says of a best quote: it is absent, and no order qualifies; or it is the price of an order that qualifies, and
-- no order that qualifies has a better one. `means` in proofs/Best shows it of `best`, and `meant` that no other quote has it.
abbrev pub Means : Side → ℕ → List Order → Option Steps → Type 0
Means side minimum orders None = (o : Order) → Memᴰ o orders → qualifies side minimum orders o ≡ false
Means side minimum orders (Some p) =
    ((o : Order) × Memᴰ o orders × (qualifies side minimum orders o ≡ true) × (o.price ≡ p))
    × ((o : Order) → Memᴰ o orders → qualifies side minimum orders o ≡ true → at_least side p.0 o.price.0 ≡ true)
