-- Each answer by the test of the three numbers.
use mathlib.Core.Path.{ap, sym, ◌∙◌}
use Rattle.rules.specs.Answers.{accepted}
use Rattle.game.proofs.Answers.{refused_26, answered}
use Rattle.game.proofs.safe_minutes.Goals as goal

pub returns-then-any_above : goal.returns-then-any_above
returns-then-any_above c =
    let a = c.args in
    refused_26 a.m a.h a.k (sym c.any_above.ensures ∙ c.if-any_above.true)

pub returns : goal.returns
returns c =
    let a = c.args in
    ap accepted c.forced.ensures
    ∙ answered a.m a.h a.k (sym c.any_above.ensures ∙ c.if-any_above.false)
