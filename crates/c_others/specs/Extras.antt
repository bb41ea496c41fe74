-- The weight of K, L and p, the words of a sigma, and what a row is eased for.
use Rattle.std.specs.Prelude.{ℕ, not, ◌&&◌, List, [], ◌∷◌, pos, ltb, eqb, Option, Some, None, if◌then◌else◌}
use Rattle.rules.specs.declared.Strike.{Strike}
use Rattle.rules.specs.declared.SpreadRule.{SpreadRule}
use Rattle.rules.specs.declared.SpreadRule.TheVariants.{Settled, OfStrike}
use Rattle.lists.specs.Lists.{within}
use Rattle.rules.specs.Terms.{paper}
use Rattle.rules.specs.Units.{steps}
use Rattle.rules.specs.Rows.{good_length}
use Rattle.rules.specs.Pay.{weight}
use Rattle.rules.specs.Answers.{Outcome, outcome_by}
use Rattle.rules.specs.Causes.{cause, first_number}

-- the weight w by the share alone, with no lapse limit; 2, L or p outside a row's range; 3, K above L
unfoldable pub weighed : ℕ → ℕ → ℕ → Outcome ℕ
weighed kept length share =
    outcome_by (first_number (cause 2 (not (good_length length && within 1 799 share)) ∷ cause 3 (ltb length kept) ∷ [])) (weight paper kept length share)

-- a day's sigma as one word, none where it has none
abbrev pub sigma_words : Option ℕ → List ℕ
sigma_words None = []
sigma_words (Some n) = n ∷ []

-- a row is eased for an open by SP, or by a strike, which leaves a and b unread. Easing looks at nothing else of them, so any will do.
abbrev pub any_strike : Strike
any_strike = record { a = 0; difference = 0; days = 0; b = 0 }

abbrev pub spread_for : ℕ → SpreadRule
spread_for strike = if eqb strike 0 then Settled (steps (pos 0)) else OfStrike any_strike
