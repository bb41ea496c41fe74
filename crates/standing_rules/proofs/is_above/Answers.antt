-- `standing_rules::is_above` meets its contract: `above` by whether the ratings are equal.
use borrow.Author.Tests.{eq-eqb, ne_eqb}
use Rattle.standing_rules.specs.Order.{above}
use Rattle.standing_rules.proofs.is_above.Goals as goal

pub returns-then-a-b : goal.returns-then-a-b
unfolding above
returns-then-a-b c = simp (eq-eqb _ _ c.if-a-b.true)

pub returns : goal.returns
unfolding above
returns c = simp (ne_eqb _ _ c.if-a-b.false)
