-- Document 02, W3: for how many live orders the search for a best quote adds up volumes.
use Rattle.std.specs.Prelude.{ℕ, ◌+◌, List, [], ◌∷◌, ◌++◌, Bool, not, ◌&&◌, if◌then◌else◌}
use Rattle.rules.specs.declared.Side.{Side}
use Rattle.rules.specs.declared.Order.{Order}
use Rattle.lists.specs.Lists.{any, filter}
use Rattle.rules.specs.Quotes.{same, at_least, qualifies}

-- an order's price is at that of another or worse
abbrev pub matched : Side → Order → Order → Bool
matched side o q = at_least side q.price.0 o.price.0

-- "to add up volumes for a live order only if its price is better than every one already found to qualify": of the candidates, `before`
-- are those that were looked at before it. Whether a price qualifies is decided by all live orders of the side.
unfoldable pub adds_up : Side → ℕ → List Order → List Order → Order → Bool
adds_up side minimum all before o = same side o.side && not (any (matched side o) (filter (qualifies side minimum all) before))

unfoldable pub sums_after : Side → ℕ → List Order → List Order → List Order → ℕ
sums_after side minimum all before [] = 0
sums_after side minimum all before (o ∷ os) =
    (if adds_up side minimum all before o then 1 else 0) + sums_after side minimum all (before ++ (o ∷ [])) os

-- "for how many it did": "exactly the number of such orders, in the order searched", for a list of candidates
unfoldable pub sums_for : Side → ℕ → List Order → List Order → ℕ
sums_for side minimum all candidates = sums_after side minimum all [] candidates

-- .. where the candidates are all orders
unfoldable pub sums_of : Side → ℕ → List Order → ℕ
sums_of side minimum orders = sums_for side minimum orders orders
