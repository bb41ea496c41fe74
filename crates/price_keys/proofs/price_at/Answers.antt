-- `price_keys::price_at` meets its contract: a key fits 32 bits with a sign, and so does its price.
use mathlib.Core.Path.{sym, ap, ◌∙◌}
use Rattle.rules.specs.declared.Side.{Side}
use Rattle.rules.specs.Units.{steps}
use Rattle.price_keys.specs.Keys.{price_at}
use Rattle.price_keys.proofs.Widths.{bid_signed, ask_signed, bid_is, ask_is}
use Rattle.price_keys.proofs.price_at.Goals as goal

pub overflow_sub-result : goal.overflow_sub-result
overflow_sub-result c = bid_signed c.args.key c.requires

pub overflow_sub-result-in-Sell : goal.overflow_sub-result-in-Sell
overflow_sub-result-in-Sell c = ask_signed c.args.key c.requires

pub returns-in-Buy : goal.returns-in-Buy
returns-in-Buy c =
    let k = c.args.key in
    ap steps (bid_is k c.requires ∙ ap (λ (side : Side). price_at side k) (sym c.in-Buy.is))

pub returns-in-Sell : goal.returns-in-Sell
returns-in-Sell c =
    let k = c.args.key in
    ap steps (ask_is k c.requires ∙ ap (λ (side : Side). price_at side k) (sym c.in-Sell.is))
