-- The limit of the case that open was given, its numbers in their ranges.
use Prim.Native.Nat.{◌≤◌}
use mathlib.Core.Path.{◌≡◌, sym, ap, ◌∙◌}
use mathlib.Core.Bool.{true}
use borrow.Author.Rules.{rules}
use Rattle.rules.specs.declared.Row.{Row}
use Rattle.rules.specs.declared.Steps.{Steps}
use Rattle.rules.specs.declared.Strike.{Strike}
use Rattle.rules.specs.declared.SpreadRule.{SpreadRule}
use Rattle.rules.specs.declared.SpreadRule.TheVariants.{Settled, OfStrike}
use Rattle.rules.specs.Terms.{paper}
use Rattle.rules.specs.Rows.{good_row_for}
use Rattle.rules.specs.Strikes.{good_strike}
use Rattle.rules.specs.Causes.{good_spread_rule}
use Rattle.rules.proofs.Bounds.{row_bounds}
use Rattle.clock.specs.Clocks.{widest_for}
use Rattle.clock.proofs.widest_of.Goals as goal

-- The limit of the case that open was given, its numbers in their ranges.
-- a row with SP has its a in range
settled-a : (row : Row) (spread : SpreadRule) (sp : Steps) → spread ≡ Settled sp → good_row_for paper spread row ≡ true → row.a ≤ 100000
unfolding good_row_for
settled-a row spread sp e g = (row_bounds paper row (sym (ap (λ (s : SpreadRule). good_row_for paper s row) e) ∙ g)).a_most

strike-good : (spread : SpreadRule) (s : Strike) → spread ≡ OfStrike s → good_spread_rule spread ≡ true → good_strike s ≡ true
strike-good spread s e g = sym (ap good_spread_rule e) ∙ g

pub widest_for_price-requires : goal.widest_for_price-requires
widest_for_price-requires c =
    settled-a c.args.row c.args.spread _ c.in-Settled.is c.requires.0

pub widest-requires : goal.widest-requires
widest-requires c =
    strike-good c.args.spread _ c.in-OfStrike.is c.requires.1

pub returns-in-Settled : goal.returns-in-Settled
returns-in-Settled c =
    c.widest_for_price.ensures ∙ sym (ap (widest_for c.args.row) c.in-Settled.is)

pub returns-in-OfStrike : goal.returns-in-OfStrike
returns-in-OfStrike c =
    c.widest.ensures ∙ sym (ap (widest_for c.args.row) c.in-OfStrike.is)
