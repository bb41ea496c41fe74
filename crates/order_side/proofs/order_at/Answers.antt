-- What the three words say; the price is that of the key.
use mathlib.Core.Path.{ap}
use Rattle.rules.specs.declared.Steps.{Steps}
use Rattle.rules.specs.declared.Order.{Order}
use Rattle.rules.specs.Units.{contracts}
use Prim.Native.Nat.{ℕ, ◌+◌}
use lib.ListN.{get_or}
use Rattle.rules.specs.declared.Side.{Side}
use Rattle.rules.specs.declared.Contracts.{Contracts}
use borrow.Author.Rules.{rules}
use Rattle.order_side.proofs.order_at.Goals as goal

-- What the three words say; the price is that of the key.
-- an order by its price
abbrev priced : ℕ → Side → Contracts → Steps → Order
priced id side volume price = record { id = id; side = side; price = price; volume = volume }

pub returns : goal.returns
returns c =
    let a = c.args in
    ap (priced (get_or a.words.now a.place 0) a.side (contracts (get_or a.words.now (128 + a.place) 0))) c.price_at.ensures
