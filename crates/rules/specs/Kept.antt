-- Document 01, "Best quote and kept time": kept milliseconds and kept time, with what document 02 adds: W2's sentence on
-- D and, by W4, a strike's spread limit.
use Rattle.std.specs.Prelude.{ℕ, List, Bool, false, ◌&&◌, ◌||◌, leb, ℤ, pos, ◌-ℤ◌, ◌*ℤ◌, None, Option, Some}
use Rattle.std.specs.Int.Signed.{le_z}
use Rattle.rules.specs.declared.Steps.{Steps}
use Rattle.rules.specs.declared.Side.TheVariants.{Buy, Sell}
use Rattle.rules.specs.declared.Order.{Order}
use Rattle.rules.specs.declared.Row.{Row}
use Rattle.rules.specs.declared.SpreadRule.{SpreadRule}
use Rattle.rules.specs.declared.SpreadRule.TheVariants.{Settled, OfStrike}
use Rattle.rules.specs.declared.Event.{Event}
use Rattle.lists.specs.Lists.{filter, count_below}
use Rattle.rules.specs.Orders.{time_of, live}
use Rattle.rules.specs.Quotes.{best}
use Rattle.rules.specs.Strikes.{strike_within}

-- "D is best ask less best bid, and may be negative."
abbrev pub gap : ℤ → ℤ → ℤ
gap bid ask = ask -ℤ bid

-- "D × 100,000 ≤ a × SP or D ≤ b"; document 02, W4: for a strike, "Whether D is within it", its own limit, "is decided exactly"
abbrev pub spread_within : Row → SpreadRule → ℤ → Bool
spread_within row (Settled sp) d = le_z (d *ℤ pos 100000) (pos row.a *ℤ sp.0) || le_z d (pos row.b)
spread_within row (OfStrike s) d = strike_within s d

-- document 02, W2: "a millisecond is kept only if D is also 1 or more"
abbrev pub spread_keeps : Row → SpreadRule → ℤ → Bool
spread_keeps row spread d = le_z (pos 1) d && spread_within row spread d

-- "both quotes exist and" their D is so
unfoldable pub quotes_keep : Row → SpreadRule → Option Steps → Option Steps → Bool
quotes_keep row spread None ask = false
quotes_keep row spread (Some bid) None = false
quotes_keep row spread (Some bid) (Some ask) = spread_keeps row spread (gap bid.0 ask.0)

-- the best bid and the best ask of live orders, for the row's M
abbrev pub best_bid : Row → List Order → Option Steps
best_bid row orders = best Buy row.minimum.0 orders

abbrev pub best_ask : Row → List Order → Option Steps
best_ask row orders = best Sell row.minimum.0 orders

-- the live orders keep the quote
unfoldable pub orders_keep : Row → SpreadRule → List Order → Bool
orders_keep row spread orders = quotes_keep row spread (best_bid row orders) (best_ask row orders)

-- "all accepted events with t at most m"
unfoldable pub up_to : ℕ → List Event → List Event
up_to m events = filter (λ (e : Event). leb (time_of e) m) events

-- "A millisecond m, from 0 to L-1, is kept if, after all accepted events with t at most m," the live orders keep the quote
unfoldable pub kept_at : Row → SpreadRule → List Event → ℕ → Bool
kept_at row spread events m = orders_keep row spread (live (up_to m events))

-- K below a time: "the number of kept m below the present time; after close, below L"
unfoldable pub kept_below : Row → SpreadRule → List Event → ℕ → ℕ
kept_below row spread events n = count_below (kept_at row spread events) n
