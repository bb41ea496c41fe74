-- `price_keys::key_of` meets its contract: a price in its range has a key that its sum or difference is.
use mathlib.Core.Path.{sym, ap, ◌∙◌}
use borrow.Author.Rules.{rules}
use lib.IntN.{ℤ, pos, ◌+ℤ◌, ◌-ℤ◌}
use mir.Syntax.{w32}
use mir.Val.{SFits}
use Rattle.rules.specs.declared.Side.{Side}
use Rattle.rules.specs.declared.Side.TheVariants.{Buy, Sell}
use Rattle.price_keys.specs.Keys.{key_of}
use Rattle.price_keys.proofs.Keys.{key_most}
use Rattle.price_keys.proofs.Widths.{key-sum, key_difference, key_signed, key_unsigned, key_is}
use Rattle.price_keys.proofs.key_of.Goals as goal

-- `price_keys::key_of` meets its contract: a price in its range has a key that its sum or difference is.
abbrev bid : ℤ → ℤ
bid p = pos 1000000001 +ℤ p

abbrev ask : ℤ → ℤ
ask p = pos 1000000001 -ℤ p

pub overflow_add-result : goal.overflow_add-result
overflow_add-result c =
    let p = c.args.price.0 in
    let h : SFits w32 p = search rules in
    key_signed bid p (key_of Buy p) h (key-sum p c.requires) (key_most Buy p c.requires)

pub overflow_cast-result : goal.overflow_cast-result
overflow_cast-result c =
    let p = c.args.price.0 in
    let h : SFits w32 p = search rules in
    key_unsigned bid p (key_of Buy p) h (key-sum p c.requires) (key_most Buy p c.requires)

pub overflow_sub-result : goal.overflow_sub-result
overflow_sub-result c =
    let p = c.args.price.0 in
    let h : SFits w32 p = search rules in
    key_signed ask p (key_of Sell p) h (key_difference p c.requires) (key_most Sell p c.requires)

pub overflow_cast-result-in-Sell : goal.overflow_cast-result-in-Sell
overflow_cast-result-in-Sell c =
    let p = c.args.price.0 in
    let h : SFits w32 p = search rules in
    key_unsigned ask p (key_of Sell p) h (key_difference p c.requires) (key_most Sell p c.requires)

pub returns-in-Buy : goal.returns-in-Buy
returns-in-Buy c =
    let p = c.args.price.0 in
    let h : SFits w32 p = search rules in
    key_is bid p (key_of Buy p) h (key-sum p c.requires) (key_most Buy p c.requires) ∙ ap (λ (side : Side). key_of side p) (sym c.in-Buy.is)

pub returns-in-Sell : goal.returns-in-Sell
returns-in-Sell c =
    let p = c.args.price.0 in
    let h : SFits w32 p = search rules in
    key_is ask p (key_of Sell p) h (key_difference p c.requires) (key_most Sell p c.requires) ∙ ap (λ (side : Side). key_of side p) (sym c.in-Sell.is)
