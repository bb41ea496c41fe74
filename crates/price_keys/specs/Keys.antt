-- A price as a key: a natural number that is the greater, the better the price. 0 is the key of no price.
use Rattle.std.specs.Prelude.{ℕ, zero, suc, ◌+◌, ◌-◌, leb, ℤ, pos, negsuc, if◌then◌else◌, None, Option, Some}
use Rattle.rules.specs.declared.Steps.{Steps}
use Rattle.rules.specs.declared.Side.{Side}
use Rattle.rules.specs.declared.Side.TheVariants.{Buy, Sell}
use Rattle.rules.specs.declared.Order.{Order}
use Rattle.rules.specs.Units.{steps}

-- 1,000,000,001 plus the price for buys, less the price for sells: 1 to 2,000,000,001 for a price in its range
unfoldable pub key_of : Side → ℤ → ℕ
key_of Buy (pos n) = 1000000001 + n
key_of Buy (negsuc n) = 1000000000 - n
key_of Sell (pos n) = 1000000001 - n
key_of Sell (negsuc n) = 1000000002 + n

-- the price that has the key
unfoldable pub price_at : Side → ℕ → ℤ
price_at Buy k = if leb 1000000001 k then pos (k - 1000000001) else negsuc (1000000000 - k)
price_at Sell k = if leb k 1000000001 then pos (1000000001 - k) else negsuc (k - 1000000002)

abbrev pub key_in : Side → Order → ℕ
key_in side o = key_of side o.price.0

-- the key of a quote, and the quote of a key
abbrev pub quote_key : Side → Option Steps → ℕ
quote_key side None = 0
quote_key side (Some p) = key_of side p.0

abbrev pub quote_at : Side → ℕ → Option Steps
quote_at side zero = None
quote_at side (suc k) = Some (steps (price_at side (suc k)))
