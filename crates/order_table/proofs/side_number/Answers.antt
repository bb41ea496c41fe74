-- By the side.
use native.Mathlib.Omega.{arith}
use mathlib.Core.Path.{◌≡◌, sym}
use borrow.Author.Rules.{rules}
use Rattle.rules.specs.declared.Side.{Side}
use Rattle.rules.specs.declared.Side.TheVariants.{Buy, Sell}
use Rattle.order_table.specs.Internal.{Numbers}
use Rattle.order_table.proofs.side_number.Goals as goal

-- By the side.
buys : (side : Side) → side ≡ Buy → Numbers side 0
buys side e = record { is = sym e; small = omega arith }

sells : (side : Side) → side ≡ Sell → Numbers side 1
sells side e = record { is = sym e; small = omega arith }

pub returns-in-Buy : goal.returns-in-Buy
returns-in-Buy c = buys c.args.side c.in-Buy.is

pub returns-in-Sell : goal.returns-in-Sell
returns-in-Sell c = sells c.args.side c.in-Sell.is
